use Rattle.std.proofs.Common.{refl, arith}
use Rattle.nav_live.proofs.PassLaws.{covers_before, saw_others}
use Rattle.nav_live.proofs.book.aim.Goals as goal

pub returns-clause-whole : goal.returns-clause-whole
returns-clause-whole g c = c.in-Aim.ensures.acts.did.1

pub returns-clause-covers : goal.returns-clause-covers
returns-clause-covers g c =
    covers_before c.args.context.now.lock.now c.args.pass.now c.with.new.pass c.in-Aim.k
    (saw_others c.args.context.now.lock.now c.args.pass.now c.with.new.pass _ _ refl c.with.ensures.of c.with.ensures.number c.with.ensures.acts)
    (omega (arith, c.in-Aim.ensures.acts.did.1))

pub returns-clause-saw : goal.returns-clause-saw
returns-clause-saw g c = saw_others c.args.context.now.lock.now c.args.pass.now c.with.new.pass _ _ refl c.with.ensures.of c.with.ensures.number c.with.ensures.acts
