use Rattle.std.proofs.Common.{◌≡◌, ℕ, ◌<◌, length, take}
use Rattle.tri_raster.specs.Columns.{AreKept}
use Rattle.tri_raster.specs.Sweeps.{column_at}
use Rattle.tri_raster.proofs.sweep.fill.Given as goal

-- the triangles so far
abbrev pub invariant-loop-tri : goal.invariant-loop-tri
invariant-loop-tri l =
    ((x : ℕ) → x < length l.columns → AreKept (take l.tri-index l.active) x l.z (column_at l.columns x))
    × (length l.columns ≡ length l.initial.columns)
    × (length l.bounds ≡ length l.initial.bounds)
