use Rattle.nav_play.proofs.Writing.{stands_further, stands_grown, stands_told}
use Rattle.nav_play.proofs.play_scene.write_line.Goals as goal

pub returns-in_err-append_line-clause-front : goal.returns-in_err-append_line-clause-front
returns-in_err-append_line-clause-front c =
    stands_told _ _ _ _ c.in_err-append_line.ensures

pub returns-clause-front : goal.returns-clause-front
returns-clause-front c =
    stands_further _ _ _ (stands_told _ _ _ _ c.in_ok-append_line.ensures) (stands_grown _ _ _ _ c.extend_from_slice.ensures.items)
