-- The column reaches over the side that was just tried.
use Rattle.std.proofs.Common.{rules, below_more}
use Rattle.nav_ground.proofs.prism.is_sharing.Goals as goal

pub loop-place-preserved : goal.loop-place-preserved
loop-place-preserved c = below_more _ _ c.loop-place.invariant (c.reaches_over.ensures.0 (search rules))
