use Rattle.tri_raster.proofs.SweepLaws.{IsSweeping}
use Rattle.tri_raster.proofs.sweep.spans_of.Given as goal

-- the rows so far
abbrev pub invariant-loop-z : goal.invariant-loop-z
invariant-loop-z l = IsSweeping l.setting l.fn.tris l.z l.sweep.active.items l.sweep.bounds.items l.sweep.columns.items l.spans.items
