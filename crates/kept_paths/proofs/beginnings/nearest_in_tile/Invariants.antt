use Rattle.kept_paths.specs.Beginnings.{IsNearestBefore}
use Rattle.kept_paths.proofs.beginnings.nearest_in_tile.Given as goal

-- the nearest of the polygons so far
abbrev pub invariant-loop-i : goal.invariant-loop-i
invariant-loop-i l = IsNearestBefore l.mesh l.path l.tile l.i l.nearest
