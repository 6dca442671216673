-- SmallNumbers: which points, polygons and extents fit into the small numbers in which they are stored.
use Rattle.std.specs.Prelude.{ℕ, ℤ, pos, ◌≤ℤ◌, ◌≤◌, List, All}
use Rattle.nav_base.specs.declared.point.Point.{Point}
use Rattle.mesh_types.specs.declared.polygon.Polygon.{Polygon}
use Rattle.mesh_types.specs.declared.extent.Extent.{Extent}
use Rattle.mesh_types.specs.Extents.{extent_of}

-- a coordinate fits into 16 bits
abbrev pub IsSmallCoordinate : ℤ → Type 0
IsSmallCoordinate coordinate = (pos 0 ≤ℤ coordinate) × (coordinate ≤ℤ pos 65535)

-- both coordinates of a point fit into 16 bits
abbrev pub IsSmallPoint : Point → Type 0
IsSmallPoint point = IsSmallCoordinate point.x × IsSmallCoordinate point.z

-- the corners of an extent fit into 16 bits along each axis, and its area into 8
pub record IsSmallExtent (extent : Extent) : Type 0 where
  pub low : IsSmallPoint extent.low
  pub high : IsSmallPoint extent.high
  pub area : extent.area ≤ 255

-- an area fits into 8 bits
abbrev pub IsSmallArea : ℕ → Type 0
IsSmallArea area = area ≤ 255

-- a floor, in height units, fits into 16 bits
abbrev pub IsSmallFloor : ℕ → Type 0
IsSmallFloor floor = floor ≤ 65535

-- each corner of a polygon fits into 16 bits along each axis, its area into 8, and its least and its greatest floor into 16
pub record IsSmallPolygon (polygon : Polygon) : Type 0 where
  pub corners : All IsSmallPoint polygon.corners
  pub area : IsSmallArea polygon.area
  pub low : IsSmallFloor polygon.low
  pub high : IsSmallFloor polygon.high

-- each of some polygons fits
abbrev pub AreSmallPolygons : List Polygon → Type 0
AreSmallPolygons polygons = All IsSmallPolygon polygons

-- the extent of each of some polygons fits
abbrev pub HaveSmallExtents : List Polygon → Type 0
HaveSmallExtents polygons = All (λ polygon. IsSmallExtent (extent_of polygon)) polygons
