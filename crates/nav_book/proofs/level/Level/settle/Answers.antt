use Rattle.std.proofs.Common.{refl}
use Rattle.nav_book.proofs.CallLaws.{not_settled, settled}
use Rattle.nav_book.proofs.level.Level.settle.Goals as goal

pub returns-in_err-k : goal.returns-in_err-k
returns-in_err-k g c = not_settled _ _ _ _ _ _ _ _ refl refl c.from_residual.ensures.0 c.build_target.ensures.did

pub returns-in_err-publish : goal.returns-in_err-publish
returns-in_err-publish g c =
    not_settled _ _ _ _ _ _ _ _ refl c.in_err-publish.ensures.refused c.from_residual-in_err-publish.ensures.0 c.in_ok-k.ensures.did

pub returns : goal.returns
returns g c = settled _ _ _ _ _ _ _ refl c.in_ok-k.ensures.did c.in_ok-k.ensures.length c.in_ok-publish.ensures.published
