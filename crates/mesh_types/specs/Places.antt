-- Places: polygons with a point that they hold and the floor there.
use Rattle.std.specs.Prelude.{◌≡◌, ℕ, ◌+◌, ◌*◌, ◌≤◌, ℤ, pos, ◌-ℤ◌, unsigned_abs, Option, Some, option_and_then, slice_get}
use Rattle.std.specs.Int.{int_max}
use Rattle.nav_base.specs.declared.point.Point.{Point}
use Rattle.mesh_types.specs.declared.links.PolyRef.{PolyRef}
use Rattle.mesh_types.specs.declared.mesh.TileMesh.{TileMesh}
use Rattle.mesh_types.specs.declared.mesh.Mesh.{Mesh}
use Rattle.mesh_types.specs.declared.storeys.Storey.{Storey}
use Rattle.mesh_types.specs.declared.storeys.MeshPlace.{MeshPlace}
use Rattle.mesh_types.specs.Rays.{IsHeldAt}
use Rattle.mesh_types.specs.Storeys.{TileStoreys, HasFloor}

-- the storey of the polygon with a place in a tile, if there is one
abbrev pub storey_in : TileStoreys → ℕ → Option Storey
storey_in storeys polygon = option_and_then (slice_get storeys.list) (slice_get storeys.homes polygon)

-- the storey of the polygon that a reference names
abbrev pub storey_at : Mesh → PolyRef → Option Storey
storey_at mesh at = option_and_then (λ (tile : TileMesh). storey_in tile.storeys at.index) (slice_get mesh.tiles at.tile)

-- how far a number lies outside two others
abbrev pub outside : ℤ → ℤ → ℤ → ℕ
outside low high n = unsigned_abs (int_max (pos 0) (int_max (low -ℤ n) (n -ℤ high)))

-- the square of how far a point, in sixteenths, lies outside the closed square of a column
abbrev pub column_gap : ℕ → ℕ → Point → ℕ
column_gap x z p =
    let dx = outside (pos (16 * x)) (pos (16 * (x + 1))) p.x in
    let dz = outside (pos (16 * z)) (pos (16 * (z + 1))) p.z in
    dx * dx + dz * dz

-- a floor at a point: that of a cell than which none of the storey is nearer, with the square of how far it is
pub record IsFloorAt (storey : Storey) (p : Point) (y aside : ℕ) : Type 0 where
  pub x : ℕ
  pub z : ℕ
  pub has : HasFloor storey x z y
  pub gap : aside ≡ column_gap x z p
  pub nearest : (x' z' y' : ℕ) → HasFloor storey x' z' y' → aside ≤ column_gap x' z' p

-- the highest such floor
pub record IsHighestAt (storey : Storey) (p : Point) (y aside : ℕ) : Type 0 where
  pub is : IsFloorAt storey p y aside
  pub highest : (other : ℕ) → IsFloorAt storey p other aside → other ≤ y

-- a place of a mesh: its polygon holds its point, and its height is a floor of the polygon's storey there
pub record IsPlace (mesh : Mesh) (place : MeshPlace) : Type 0 where
  pub held : IsHeldAt mesh place.point place.polygon
  pub storey : Storey
  pub home : storey_at mesh place.polygon ≡ Some storey
  pub aside : ℕ
  pub floor : IsFloorAt storey place.point place.y aside

-- a place stands: the cell of its floor lies under its point
pub record Stands (mesh : Mesh) (place : MeshPlace) : Type 0 where
  pub held : IsHeldAt mesh place.point place.polygon
  pub storey : Storey
  pub home : storey_at mesh place.polygon ≡ Some storey
  pub floor : IsFloorAt storey place.point place.y 0
