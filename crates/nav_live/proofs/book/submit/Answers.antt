use Rattle.std.proofs.Common.{refl}
use Rattle.nav_live.proofs.PassLaws.{saw_others}
use Rattle.nav_live.proofs.book.submit.Goals as goal

pub returns : goal.returns
returns g c = saw_others c.args.context.now.lock.now c.args.pass.now c.with-done.new.pass _ _ refl c.with-done.ensures.of c.with-done.ensures.number c.with-done.ensures.acts
