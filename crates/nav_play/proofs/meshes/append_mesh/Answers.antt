use Rattle.nav_play.proofs.Writing.{stands_further}
use Rattle.nav_play.proofs.meshes.append_mesh.Goals as goal

pub returns-clause-front : goal.returns-clause-front
returns-clause-front c =
    stands_further _ _ _ c.in_ok-append_chunks.ensures.front c.append_chunks-2.ensures.front
