use Rattle.std.proofs.Common.{refl, inr}
use Rattle.mesh_handle.proofs.frames.frame_over.Goals as goal

pub returns-in-None : goal.returns-in-None
returns-in-None c = inr (record { ends = refl; none = c.in-None.ensures.none refl; kept = refl })
