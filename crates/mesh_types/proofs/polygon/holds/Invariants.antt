use Rattle.std.proofs.Common.{ℕ, ◌<◌, pos, ◌≤ℤ◌}
use Rattle.mesh_types.specs.Rays.{side_of}
use Rattle.mesh_types.proofs.polygon.holds.Given as goal

-- the point lies to the left of the edges so far, or on them
abbrev pub invariant-loop-edge : goal.invariant-loop-edge
invariant-loop-edge l = (k : ℕ) → k < l.edge → pos 0 ≤ℤ side_of l.polygon k l.p
