use Rattle.nav_play.proofs.Writing.{stands_further, stands_told}
use Rattle.nav_play.proofs.play_scene.write_point.Goals as goal

pub returns-in_err-append_number-clause-front : goal.returns-in_err-append_number-clause-front
returns-in_err-append_number-clause-front c =
    stands_told _ _ _ _ c.in_err-append_number.ensures

pub returns-clause-front : goal.returns-clause-front
returns-clause-front c =
    stands_further _ _ _ (stands_told _ _ _ _ c.in_ok-append_number.ensures) (stands_told _ _ _ _ c.append_number-2.ensures)
