-- The corners lie to the left of each side so far.
use Rattle.std.proofs.Common.{ℕ, ◌<◌, EachIndex}
use Rattle.nav_base.specs.Convex.{LiesLeft}
use Rattle.nav_ground.proofs.prism.is_convex.Given as goal

abbrev pub invariant-loop-place : goal.invariant-loop-place
invariant-loop-place l = (i : ℕ) → i < l.place → EachIndex l.corners (LiesLeft l.corners i)
