-- The corners lie to the left of the side that was just tried.
use Rattle.std.proofs.Common.{rules, below_more}
use Rattle.nav_ground.proofs.prism.is_convex.Goals as goal

pub loop-place-preserved : goal.loop-place-preserved
loop-place-preserved c = below_more _ _ c.loop-place.invariant (c.others_left.ensures.0 (search rules))
