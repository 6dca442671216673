use Rattle.std.proofs.Common.{refl}
use Rattle.nav_live.proofs.PassLaws.{saw_others}
use Rattle.nav_live.proofs.book.claim.Goals as goal

pub returns-in-Claimed-clause-job : goal.returns-in-Claimed-clause-job
returns-in-Claimed-clause-job g c = c.in-Claimed.ensures.acts.did.1

pub returns-in-Claimed-clause-saw : goal.returns-in-Claimed-clause-saw
returns-in-Claimed-clause-saw g c = saw_others c.args.context.now.lock.now c.args.pass.now c.with.new.pass _ _ refl c.with.ensures.of c.with.ensures.number c.with.ensures.acts

pub returns-in-NoTile-clause-saw : goal.returns-in-NoTile-clause-saw
returns-in-NoTile-clause-saw g c = saw_others c.args.context.now.lock.now c.args.pass.now c.with.new.pass _ _ refl c.with.ensures.of c.with.ensures.number c.with.ensures.acts

pub returns-in-NoMemory-clause-saw : goal.returns-in-NoMemory-clause-saw
returns-in-NoMemory-clause-saw g c = saw_others c.args.context.now.lock.now c.args.pass.now c.with.new.pass _ _ refl c.with.ensures.of c.with.ensures.number c.with.ensures.acts
