use Rattle.tri_raster.proofs.SweepLaws.{HasColumns}
use Rattle.tri_raster.proofs.sweep.push_row.Given as goal

-- the columns so far
abbrev pub invariant-loop-x : goal.invariant-loop-x
invariant-loop-x l = HasColumns l.climb l.x l.z l.initial.columns l.columns l.initial.spans.items l.spans.items
