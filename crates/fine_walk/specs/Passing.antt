-- Passing: what the steps of a straight way keep.
use Rattle.std.specs.Prelude.{◌≡◌, ◌≢◌, ℕ, ◌<◌, ◌^◌, min, max, pos, ◌*ℤ◌, ◌≤ℤ◌, Contains, List, [], ◌++◌, length, slice_get, Option, Some, None, if◌then◌else◌}
use Rattle.std.specs.Option.{option_map_or}
use Rattle.std.specs.Ordering.{is_lt}
use Rattle.std.specs.declared.cmp.Ordering.TheVariants.{Less}
use Rattle.nav_base.specs.declared.point.Point.{Point}
use Rattle.nav_base.specs.Point.{HasCoordinates, IsWithin}
use Rattle.mesh_types.specs.declared.links.Link.{Link}
use Rattle.mesh_types.specs.declared.links.PolyRef.{PolyRef}
use Rattle.mesh_types.specs.declared.mesh.Mesh.{Mesh}
use Rattle.mesh_types.specs.declared.mesh.TileMesh.{TileMesh}
use Rattle.mesh_types.specs.declared.polygon.Polygon.{Polygon}
use Rattle.mesh_types.specs.LinkIndex.{leaving_of}
use Rattle.mesh_types.specs.LinkOrder.{link_cmp}
use Rattle.mesh_types.specs.WholeMesh.{poly_at}
use Rattle.path_queries.specs.Filters.{Enters}
use Rattle.fine_walk.specs.declared.passing.FineWay.{FineWay}
use Rattle.fine_walk.specs.declared.exits.FineRay.{FineRay}
use Rattle.fine_walk.specs.declared.exits.FineExit.{FineExit}
use Rattle.fine_walk.specs.FineRays.{fine_side, fine_den, IsFineExit, IsLeastFineExit, FineMeets}

-- the mesh has the polygon that a reference names
pub record IsThere (mesh : Mesh) (at : PolyRef) : Type 0 where
  pub polygon : Polygon
  pub is : poly_at mesh at ≡ Some polygon

-- a fine point whose parts are small enough for products: at most 2 ^ 20, whatever their signs
abbrev pub IsFinePoint : Point → Type 0
IsFinePoint p = IsWithin (2 ^ 20) p

-- both ends of a ray are
pub record HasFineEnds (ray : FineRay) : Type 0 where
  pub from : IsFinePoint ray.from
  pub to : IsFinePoint ray.to

-- ---- exits

-- no exit has the beginning of the ray on its right: exit fractions are not negative, and their denominators are above 0
abbrev pub IsEntered : Polygon → FineRay → Type 0
IsEntered polygon ray = (edge : ℕ) → IsFineExit polygon ray.to edge → pos 0 ≤ℤ fine_side polygon edge ray.from

-- an edge is an exit, and this is its fraction
pub record IsExitOver (polygon : Polygon) (ray : FineRay) (edge : ℕ) (exit : FineExit) : Type 0 where
  pub is : IsFineExit polygon ray.to edge
  pub place : exit.edge ≡ edge
  pub num : exit.num ≡ fine_side polygon edge ray.from
  pub den : exit.den ≡ fine_den polygon ray.from ray.to edge

-- an exit of least fraction among the edges before one
pub record IsEarliest (polygon : Polygon) (ray : FineRay) (end : ℕ) (exit : FineExit) : Type 0 where
  pub over : IsExitOver polygon ray exit.edge exit
  pub least : (other : ℕ) → other < end → IsFineExit polygon ray.to other
      → (exit.num *ℤ fine_den polygon ray.from ray.to other) ≤ℤ (fine_side polygon other ray.from *ℤ exit.den)

-- what was found among the edges before one
abbrev pub IsFirstBefore : Polygon → FineRay → ℕ → Option FineExit → Type 0
IsFirstBefore polygon ray end None = (other : ℕ) → other < end → IsFineExit polygon ray.to other → ⊥
IsFirstBefore polygon ray end (Some exit) = IsEarliest polygon ray end exit

-- an exit of least fraction among all
pub record IsLeastOf (polygon : Polygon) (ray : FineRay) (exit : FineExit) : Type 0 where
  pub over : IsExitOver polygon ray exit.edge exit
  pub is : IsLeastFineExit polygon ray.from ray.to exit.edge

-- ---- links

-- the links that leave a polygon inside its tile, and those that leave it over the tile's border
abbrev pub inner_links : Mesh → PolyRef → List Link
inner_links mesh at = option_map_or (λ (tile : TileMesh). leaving_of at.index tile.links) (slice_get mesh.tiles at.tile) []

abbrev pub outer_links : Mesh → PolyRef → List Link
outer_links mesh at = option_map_or (leaving_of at.index) (slice_get mesh.cross at.tile) []

-- the links that leave a polygon
abbrev pub links_from : Mesh → PolyRef → List Link
links_from mesh at = inner_links mesh at ++ outer_links mesh at

-- a link leaves over an edge of the polygon, its portal has coordinates, and the polygon that it enters is there
pub record IsOutward (mesh : Mesh) (polygon : Polygon) (link : Link) : Type 0 where
  pub there : link.edge < length polygon.corners
  pub left : HasCoordinates link.portal.left
  pub right : HasCoordinates link.portal.right
  pub entered : IsThere mesh link.to

-- a link leads a ray on: over an exit of least fraction, through a portal that the ray meets, into a polygon of an open area not yet visited
pub record IsOnward (mesh : Mesh) (areas : ℕ) (polygon : Polygon) (ray : FineRay) (visited : List PolyRef) (link : Link) : Type 0 where
  pub over : IsLeastFineExit polygon ray.from ray.to link.edge
  pub meets : FineMeets ray.from ray.to link.portal
  pub fresh : Contains visited link.to → ⊥
  pub enters : Enters mesh areas link

-- of the links of a list that keep a condition, the first in the order of links, if there is one
abbrev pub IsFirstIn : (Link → Type 0) → List Link → Option Link → Type 0
IsFirstIn P links None = (link : Link) → Contains links link → P link → ⊥
IsFirstIn P links (Some link) = Contains links link × P link × ((other : Link) → Contains links other → P other → link_cmp other link ≢ Less)

-- the first of two links in the order of links, where they are there; of equal ones the first given
abbrev pub first_of : Option Link → Option Link → Option Link
first_of None b = b
first_of (Some a) None = Some a
first_of (Some a) (Some b) = if is_lt (link_cmp b a) then Some b else Some a

-- a way that passes over a polygon more
abbrev pub passed_over : FineWay → Polygon → FineWay
passed_over way polygon = record way { low = min way.low polygon.low; high = max way.high polygon.high }
