-- Located: which polygon holds a point at a height.
use Rattle.std.specs.Prelude.{◌≡◌, ℕ, ◌-◌, ◌<◌, ◌≤◌, ◌⊎◌, max, pos, ◌≤ℤ◌, length, Some}
use Rattle.nav_base.specs.declared.point.Point.{Point}
use Rattle.nav_base.specs.Point.{orient_of}
use Rattle.mesh_types.specs.declared.links.PolyRef.{PolyRef}
use Rattle.mesh_types.specs.declared.polygon.Polygon.{Polygon}
use Rattle.mesh_types.specs.declared.mesh.Mesh.{Mesh}
use Rattle.mesh_types.specs.Portals.{edge_begin, edge_end}
use Rattle.mesh_types.specs.WholeMesh.{poly_at}

-- a polygon holds a point of the plane, in sixteenths: the point lies to the left of each edge or on its line
abbrev pub Holds : Polygon → Point → Type 0
Holds polygon p = (edge : ℕ) → edge < length polygon.corners → pos 0 ≤ℤ orient_of (edge_begin polygon edge) (edge_end polygon edge) p

-- how far a height is outside the floors of a polygon
abbrev pub height_gap : Polygon → ℕ → ℕ
height_gap polygon y = max (polygon.low - y) (y - polygon.high)

-- the polygon of a reference holds a point at a height: in the plane, and no further outside its floors than the climb
pub record HoldsAt (mesh : Mesh) (p : Point) (y : ℕ) (at : PolyRef) : Type 0 where
  pub polygon : Polygon
  pub there : poly_at mesh at ≡ Some polygon
  pub holds : Holds polygon p
  pub near : height_gap polygon y ≤ mesh.setting.agent.climb

-- of two polygons the first is nearer in height, or equally near and earlier by tile and place, or the same
abbrev pub IsNoLater : ℕ → PolyRef → ℕ → PolyRef → Type 0
IsNoLater gap a gap' b =
    (gap < gap') ⊎ ((gap ≡ gap') × ((a.tile < b.tile) ⊎ ((a.tile ≡ b.tile) × (a.index ≤ b.index))))

-- the polygon that locates a point at a height: of those that hold it the nearest in height, and of equally near ones the first
pub record IsLocated (mesh : Mesh) (p : Point) (y : ℕ) (at : PolyRef) : Type 0 where
  pub holding : HoldsAt mesh p y at
  pub first : (other : PolyRef) (held : HoldsAt mesh p y other)
      → IsNoLater (height_gap holding.polygon y) at (height_gap held.polygon y) other
