use Rattle.std.proofs.Common.{ℕ, ◌<◌, pos, ◌≤ℤ◌}
use Rattle.fine_walk.specs.FineRays.{fine_side}
use Rattle.fine_walk.proofs.fine_points.fine_holds.Given as goal

-- the point lies to the left of the edges so far, or on them
abbrev pub invariant-loop-edge : goal.invariant-loop-edge
invariant-loop-edge l = (k : ℕ) → k < l.edge → pos 0 ≤ℤ fine_side l.polygon k l.p
