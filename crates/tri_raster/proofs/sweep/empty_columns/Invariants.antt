use Rattle.std.proofs.Common.{◌≡◌, length}
use Rattle.tri_raster.specs.Sweeps.{AreEmpty}
use Rattle.tri_raster.proofs.sweep.empty_columns.Given as goal

-- so many empty columns
abbrev pub invariant-loop-column : goal.invariant-loop-column
invariant-loop-column l = (length l.columns.items ≡ l._column) × AreEmpty l.columns.items
