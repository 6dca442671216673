use Rattle.nav_play.proofs.Writing.{stands_further}
use Rattle.nav_play.proofs.meshes.TileMeshSceneItem.append_to.Goals as goal

pub returns-in_err-append_free-clause-front : goal.returns-in_err-append_free-clause-front
returns-in_err-append_free-clause-front c =
    stands_further _ _ _ c.in_ok-write_line.ensures.front c.in_err-append_free.ensures.front

pub returns-in_err-append_to-clause-front : goal.returns-in_err-append_to-clause-front
returns-in_err-append_to-clause-front c =
    stands_further _ _ _ (stands_further _ _ _ c.in_ok-write_line.ensures.front c.in_ok-append_free.ensures.front) c.in_err-append_to.ensures.front

pub returns-clause-front : goal.returns-clause-front
returns-clause-front c =
    stands_further _ _ _ (stands_further _ _ _ (stands_further _ _ _ c.in_ok-write_line.ensures.front c.in_ok-append_free.ensures.front) c.in_ok-append_to.ensures.front) c.append_to-2.ensures.front
