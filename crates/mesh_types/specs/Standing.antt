-- Standing: points of a polygon under which its storey has a cell.
use Rattle.std.specs.Prelude.{◌≡◌, ℕ, All, Some, slice_get}
use Rattle.nav_base.specs.declared.point.Point.{Point}
use Rattle.mesh_types.specs.declared.mesh.TileMesh.{TileMesh}
use Rattle.mesh_types.specs.declared.polygon.Polygon.{Polygon}
use Rattle.mesh_types.specs.declared.storeys.Storey.{Storey}
use Rattle.mesh_types.specs.BorderLinks.{scaled}
use Rattle.mesh_types.specs.Located.{Holds}
use Rattle.mesh_types.specs.Places.{IsFloorAt, storey_in}

-- the storey of a polygon of a tile has a cell under a point
pub record IsStanding (tile : TileMesh) (polygon : ℕ) (p : Point) : Type 0 where
  pub storey : Storey
  pub home : storey_in tile.storeys polygon ≡ Some storey
  pub y : ℕ
  pub floor : IsFloorAt storey p y 0

-- each point that a polygon holds stands
abbrev pub PointsStand : TileMesh → Type 0
PointsStand tile = (index : ℕ) (polygon : Polygon) (p : Point) → slice_get tile.polys index ≡ Some polygon → Holds polygon p → IsStanding tile index p

-- each corner of a polygon stands
abbrev pub CornersStand : TileMesh → Type 0
CornersStand tile = (index : ℕ) (polygon : Polygon) → slice_get tile.polys index ≡ Some polygon
    → All (λ (corner : Point). IsStanding tile index (scaled corner.x corner.z)) polygon.corners
