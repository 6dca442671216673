use Rattle.std.proofs.Common.{◌≡◌, take}
use Rattle.mesh_types.specs.SmallNumbers.{AreSmallPolygons}
use Rattle.mesh_types.proofs.SmallLaws.{IsSure}
use Rattle.mesh_types.proofs.polygons.shapes.Given as goal

-- the polygons so far, all of them small
abbrev pub invariant-loop-polygon : goal.invariant-loop-polygon
invariant-loop-polygon l = (l.shapes.items ≡ take l.polygon-index l.polygons) × IsSure (AreSmallPolygons (take l.polygon-index l.polygons))
