-- The corners so far lie to the left.
use Rattle.std.proofs.Common.{ℕ, ◌<◌}
use Rattle.nav_base.specs.Convex.{LiesLeft}
use Rattle.nav_ground.proofs.prism.others_left.Given as goal

abbrev pub invariant-loop-other : goal.invariant-loop-other
invariant-loop-other l = (j : ℕ) → j < l.other → LiesLeft l.corners l.place j
