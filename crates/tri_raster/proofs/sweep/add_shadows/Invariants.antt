use Rattle.std.proofs.Common.{◌-◌, ◌≤◌}
use Rattle.tri_raster.specs.Sweeps.{AreAdded}
use Rattle.tri_raster.proofs.SweepLaws.{upto}
use Rattle.tri_raster.proofs.sweep.add_shadows.Given as goal

-- the columns so far
abbrev pub invariant-loop-x : goal.invariant-loop-x
invariant-loop-x l =
    AreAdded l.bounds (upto l.fn.hits l.x) l.area l.initial.columns l.columns × (l.fn.hits.first ≤ l.x)
    × (l.x - l.fn.hits.first ≤ l.fn.hits.end - l.fn.hits.first)
