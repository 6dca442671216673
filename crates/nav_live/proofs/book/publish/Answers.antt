use Rattle.std.proofs.Common.{refl}
use Rattle.nav_live.proofs.PassLaws.{saw_others}
use Rattle.nav_live.proofs.book.publish.Goals as goal

pub returns-in-New : goal.returns-in-New
returns-in-New g c = record {
  told = c.in-Published.ensures.acts.did.1.0;
  saw = saw_others c.args.context.now.lock.now c.args.pass.now c.with.new.pass _ _ refl c.with.ensures.of c.with.ensures.number c.with.ensures.acts;
}

pub returns-in-NotYet-clause-saw : goal.returns-in-NotYet-clause-saw
returns-in-NotYet-clause-saw g c = saw_others c.args.context.now.lock.now c.args.pass.now c.with.new.pass _ _ refl c.with.ensures.of c.with.ensures.number c.with.ensures.acts

pub returns-in-NoMemory-clause-saw : goal.returns-in-NoMemory-clause-saw
returns-in-NoMemory-clause-saw g c = saw_others c.args.context.now.lock.now c.args.pass.now c.with.new.pass _ _ refl c.with.ensures.of c.with.ensures.number c.with.ensures.acts
