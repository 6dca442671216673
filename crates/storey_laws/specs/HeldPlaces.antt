-- HeldPlaces: that the points of polygons are places.
use Rattle.std.specs.Prelude.{◌≡◌, ℕ, All, Some}
use Rattle.nav_base.specs.declared.point.Point.{Point}
use Rattle.mesh_types.specs.declared.links.PolyRef.{PolyRef}
use Rattle.mesh_types.specs.declared.mesh.Mesh.{Mesh}
use Rattle.mesh_types.specs.declared.polygon.Polygon.{Polygon}
use Rattle.mesh_types.specs.declared.storeys.Storey.{Storey}
use Rattle.mesh_types.specs.BorderLinks.{scaled}
use Rattle.mesh_types.specs.Places.{storey_at, IsHighestAt, IsPlace, Stands}
use Rattle.mesh_types.specs.Rays.{IsHeldAt}
use Rattle.mesh_types.specs.WholeMesh.{poly_at}

-- the storey of a polygon tells a floor at a point, and the point with that floor is a place
pub record HasFloorTold (mesh : Mesh) (at : PolyRef) (p : Point) : Type 0 where
  pub storey : Storey
  pub home : storey_at mesh at ≡ Some storey
  pub y : ℕ
  pub aside : ℕ
  pub told : IsHighestAt storey p y aside
  pub place : IsPlace mesh (record { polygon = at; point = p; y = y })

-- each point that a polygon of a mesh holds is a place
abbrev pub HeldPointsArePlaces : Mesh → Type 0
HeldPointsArePlaces mesh = (at : PolyRef) (p : Point) → IsHeldAt mesh p at → HasFloorTold mesh at p

-- each corner of each polygon of a mesh is a place that stands
abbrev pub CornersArePlaces : Mesh → Type 0
CornersArePlaces mesh = (at : PolyRef) (polygon : Polygon) → poly_at mesh at ≡ Some polygon
    → All (λ (corner : Point). (y : ℕ) × Stands mesh (record { polygon = at; point = scaled corner.x corner.z; y = y })) polygon.corners
