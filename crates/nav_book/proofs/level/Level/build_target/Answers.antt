use Rattle.std.proofs.Common.{◌∙◌, ap, subst, sym}
use Rattle.build_queue.specs.Steps.{after_aim}
use Rattle.nav_book.specs.Settling.{IsUnclaimed}
use Rattle.nav_book.proofs.CallLaws.{all_made, some_made}
use Rattle.nav_book.proofs.level.Level.build_target.Goals as goal

pub build_all-requires : goal.build_all-requires
build_all-requires g c = record { free = subst IsUnclaimed (sym c.aim-k.ensures.aimed) (record { at = c.put_back_all.ensures.free.at }); rules = c.aim-k.ensures.rules }

-- the builds begin at the book that is to be settled
pub returns-in_err-build_all-clause-did : goal.returns-in_err-build_all-clause-did
returns-in_err-build_all-clause-did g c =
    some_made _ _ _ _ _ _ _ (c.aim-k.ensures.aimed ∙ ap after_aim c.put_back_all.ensures.back) c.from_residual.ensures.0 c.build_all.ensures

pub returns-clause-did : goal.returns-clause-did
returns-clause-did g c = all_made _ _ _ _ _ _ _ (c.aim-k.ensures.aimed ∙ ap after_aim c.put_back_all.ensures.back) c.in_ok-build_all.ensures
