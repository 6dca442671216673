use Rattle.std.proofs.Common.{◌≡◌, ℕ, ◌<◌}
use Rattle.path_queries.specs.Batches.{flooded_at}
use Rattle.path_queries.proofs.batch.first_place.Given as goal

-- none of the polygons so far is it
abbrev pub invariant-loop-place : goal.invariant-loop-place
invariant-loop-place l = (k : ℕ) → k < l.place → (flooded_at l.list k).at ≡ l.at → ⊥
