-- Walking: what the steps of a ray walk keep.
use Rattle.std.specs.Prelude.{◌≡◌, ◌≢◌, ℕ, ◌<◌, pos, ◌*ℤ◌, ◌≤ℤ◌, ◌<ℤ◌, ◌↔◌, ◌⊎◌, Contains, Bool, false, List, [], ◌++◌, length, slice_get, Option, Some, None, ⊤}
use Rattle.std.specs.Option.{option_map_or}
use Rattle.std.specs.Ordering.{nat_cmp, ordering_then}
use Rattle.std.specs.BTreeSet.{BTreeSet, contains}
use Rattle.std.specs.declared.cmp.Ordering.{Ordering}
use Rattle.std.specs.declared.cmp.Ordering.TheVariants.{Less}
use Rattle.nav_base.specs.Point.{HasCoordinates}
use Rattle.mesh_types.specs.declared.answers.RayAnswer.{RayAnswer}
use Rattle.mesh_types.specs.declared.answers.RayAnswer.TheVariants.{Reached, Wall}
use Rattle.mesh_types.specs.declared.links.Link.{Link}
use Rattle.mesh_types.specs.declared.links.PolyRef.{PolyRef}
use Rattle.mesh_types.specs.declared.mesh.Mesh.{Mesh}
use Rattle.mesh_types.specs.declared.polygon.Polygon.{Polygon}
use Rattle.mesh_types.specs.declared.mesh.TileMesh.{TileMesh}
use Rattle.mesh_types.specs.LinkIndex.{leaving_of}
use Rattle.mesh_types.specs.LinkOrder.{link_cmp}
use Rattle.mesh_types.specs.Rays.{side_of, exit_den, IsExit, IsLeastExit, IsFirstExit, Meets}
use Rattle.mesh_types.specs.Words.{exit_num}
use Rattle.mesh_types.specs.Portals.{edge_begin, edge_end}
use Rattle.mesh_types.specs.WholeMesh.{poly_at}
use Rattle.ray_walk.specs.declared.raycast.Ray.{Ray}
use Rattle.ray_walk.specs.declared.raycast.Exit.{Exit}

-- the mesh has the polygon that a reference names
pub record IsThere (mesh : Mesh) (at : PolyRef) : Type 0 where
  pub polygon : Polygon
  pub is : poly_at mesh at ≡ Some polygon

-- both ends of a ray have coordinates
pub record HasEnds (ray : Ray) : Type 0 where
  pub from : HasCoordinates ray.from
  pub to : HasCoordinates ray.to

-- ---- exits

-- no exit has the beginning of the ray on its right: exit fractions are not negative, and their denominators are above 0
abbrev pub IsEntered : Polygon → Ray → Type 0
IsEntered polygon ray = (edge : ℕ) → IsExit polygon ray.to edge → pos 0 ≤ℤ side_of polygon edge ray.from

-- an edge is an exit, and this is its fraction
pub record IsExitOver (polygon : Polygon) (ray : Ray) (edge : ℕ) (exit : Exit) : Type 0 where
  pub is : IsExit polygon ray.to edge
  pub place : exit.edge ≡ edge
  pub num : exit.num ≡ exit_num polygon ray.from edge
  pub den : exit.den ≡ exit_den polygon ray.from ray.to edge

-- the first exit of least fraction among the edges before one
pub record IsEarliest (polygon : Polygon) (ray : Ray) (end : ℕ) (exit : Exit) : Type 0 where
  pub over : IsExitOver polygon ray exit.edge exit
  pub inside : exit.edge < end
  pub least : (other : ℕ) → other < end → IsExit polygon ray.to other
      → (exit.num *ℤ exit_den polygon ray.from ray.to other) ≤ℤ (exit_num polygon ray.from other *ℤ exit.den)
  pub first : (other : ℕ) → other < exit.edge → IsExit polygon ray.to other
      → (exit.num *ℤ exit_den polygon ray.from ray.to other) <ℤ (exit_num polygon ray.from other *ℤ exit.den)

-- what was found among the edges before one
abbrev pub IsFirstBefore : Polygon → Ray → ℕ → Option Exit → Type 0
IsFirstBefore polygon ray end None = (other : ℕ) → other < end → IsExit polygon ray.to other → ⊥
IsFirstBefore polygon ray end (Some exit) = IsEarliest polygon ray end exit

-- the first exit of least fraction among all
pub record IsFirstOf (polygon : Polygon) (ray : Ray) (exit : Exit) : Type 0 where
  pub over : IsExitOver polygon ray exit.edge exit
  pub is : IsFirstExit polygon ray.from ray.to exit.edge

-- the wall at an exit
abbrev pub wall_of : Polygon → Exit → RayAnswer
wall_of polygon exit = Wall (edge_begin polygon exit.edge) (edge_end polygon exit.edge) exit.num exit.den

-- the fraction of a wall is at least 0 and less than 1
abbrev pub IsProper : RayAnswer → Type 0
IsProper (Reached at) = ⊤
IsProper (Wall a b num den) = (pos 0 ≤ℤ num) × (num <ℤ den)

-- ---- links

-- the links that leave a polygon inside its tile, and those that leave it over the tile's border
abbrev pub inner_links : Mesh → PolyRef → List Link
inner_links mesh at = option_map_or (λ (tile : TileMesh). leaving_of at.index tile.links) (slice_get mesh.tiles at.tile) []

abbrev pub outer_links : Mesh → PolyRef → List Link
outer_links mesh at = option_map_or (leaving_of at.index) (slice_get mesh.cross at.tile) []

-- the links that leave a polygon
abbrev pub links_from : Mesh → PolyRef → List Link
links_from mesh at = inner_links mesh at ++ outer_links mesh at

-- a link leaves over an edge of the polygon, and its portal has coordinates
pub record IsOutward (polygon : Polygon) (link : Link) : Type 0 where
  pub there : link.edge < length polygon.corners
  pub left : HasCoordinates link.portal.left
  pub right : HasCoordinates link.portal.right

-- whether a polygon was visited; the set has polygons by tile and place
abbrev pub pair_cmp : (ℕ × ℕ) → (ℕ × ℕ) → Ordering
pair_cmp a b = ordering_then (nat_cmp a.0 b.0) (nat_cmp a.1 b.1)

abbrev pub is_visited : BTreeSet (ℕ × ℕ) → PolyRef → Bool
is_visited visited at = contains pair_cmp visited (at.tile, at.index)

-- a link leads a ray on: over an exit of least fraction, through a portal that the ray meets, into a polygon not yet visited
pub record IsOnward (polygon : Polygon) (ray : Ray) (visited : BTreeSet (ℕ × ℕ)) (link : Link) : Type 0 where
  pub over : IsLeastExit polygon ray.from ray.to link.edge
  pub meets : Meets ray.from ray.to link.portal
  pub fresh : is_visited visited link.to ≡ false

-- a list gathers, beside the old links, those of others that keep a condition
abbrev pub Gathers : (Link → Type 0) → List Link → List Link → List Link → Type 0
Gathers P old others new = (link : Link) → Contains new link ↔ (Contains old link ⊎ (Contains others link × P link))

-- of the links that keep a condition the first in the order of links, if there is one
abbrev pub IsFirstAmong : (Link → Type 0) → Option Link → Type 0
IsFirstAmong P None = (link : Link) → P link → ⊥
IsFirstAmong P (Some link) = P link × ((other : Link) → P other → link_cmp other link ≢ Less)
