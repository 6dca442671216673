use Rattle.std.proofs.Common.{◌≡◌, map, take}
use Rattle.mesh_types.specs.Extents.{extent_of}
use Rattle.mesh_types.specs.SmallNumbers.{HaveSmallExtents}
use Rattle.mesh_types.proofs.SmallLaws.{IsSure}
use Rattle.mesh_types.proofs.polygons.extents.Given as goal

-- the extents of the polygons so far, all of them small
abbrev pub invariant-loop-polygon : goal.invariant-loop-polygon
invariant-loop-polygon l = (l.extents.items ≡ map extent_of (take l.polygon-index l.polygons)) × IsSure (HaveSmallExtents (take l.polygon-index l.polygons))
