use Rattle.std.proofs.Common.{◌≡◌, map, take}
use Rattle.mesh_types.specs.StripPolygons.{strip_polygon}
use Rattle.strip_mesh.specs.Indexed.{runs_in}
use Rattle.strip_mesh.proofs.polygons.polygons.Given as goal

-- the rectangles so far
abbrev pub invariant-loop-strip : goal.invariant-loop-strip
invariant-loop-strip l = l.polys.items ≡ map strip_polygon (take l.strip (runs_in l.strips))
