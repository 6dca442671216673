use Rattle.std.proofs.Common.{ℕ, ◌<◌}
use Rattle.surface_move.specs.Ways.{IsHolder}
use Rattle.surface_move.proofs.parts.first_holder.Given as goal

-- none of the polygons so far holds the point
abbrev pub invariant-loop-place : goal.invariant-loop-place
invariant-loop-place l = (k : ℕ) → k < l.place → IsHolder l.mesh l.polys l.p k → ⊥
