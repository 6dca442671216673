use Rattle.std.proofs.Common.{ℕ, ◌<◌}
use Rattle.random_place.specs.Draws.{IsOverIn}
use Rattle.random_place.proofs.draws.polygon_over.Given as goal

-- none of the polygons so far is over the spot
abbrev pub invariant-loop-index : goal.invariant-loop-index
invariant-loop-index l = (k : ℕ) → k < l.index → IsOverIn l.tile k l.spot → ⊥
