use Rattle.std.proofs.Common.{◌≡◌, ℕ, ◌≤◌, ◌<◌, length}
use Rattle.tri_raster.specs.Bounds.{bound_at, fresh}
use Rattle.tri_raster.proofs.gather.clear.Given as goal

abbrev pub invariant-loop-x : goal.invariant-loop-x
invariant-loop-x l = (length l.bounds ≡ length l.initial.bounds) × ((k : ℕ) → l.fn.first ≤ k → k < l.x → bound_at l.bounds k ≡ fresh)
