use Rattle.mesh_locate.specs.Nearest.{IsNearestBefore}
use Rattle.mesh_locate.proofs.nearest.nearest_in_tile.Given as goal

-- the nearest of the polygons so far
abbrev pub invariant-loop-i : goal.invariant-loop-i
invariant-loop-i l = IsNearestBefore l.mesh l.sought.p l.sought.y l.tile l.i l.nearest
