-- FineRays: straight ways in fine points, each 1/256 of a cell: the rays of the mesh, sixteen times as fine, over areas that may be entered.
use Rattle.std.specs.Prelude.{◌≡◌, ◌≢◌, ℕ, ◌<◌, min, max, ℤ, pos, ◌-ℤ◌, ◌*ℤ◌, ◌≤ℤ◌, ◌<ℤ◌, List, [], ◌∷◌, length, Some, Contains}
use Rattle.std.specs.Option.{option_map_or}
use Rattle.std.specs.declared.cmp.Ordering.TheVariants.{Less}
use Rattle.nav_base.specs.declared.point.Point.{Point}
use Rattle.nav_base.specs.Point.{orient_of}
use Rattle.mesh_types.specs.declared.links.Link.{Link}
use Rattle.mesh_types.specs.declared.links.PolyRef.{PolyRef}
use Rattle.mesh_types.specs.declared.links.Portal.{Portal}
use Rattle.mesh_types.specs.declared.mesh.Mesh.{Mesh}
use Rattle.mesh_types.specs.declared.polygon.Polygon.{Polygon}
use Rattle.mesh_types.specs.Corridors.{IsLinkOf}
use Rattle.mesh_types.specs.LinkOrder.{link_cmp}
use Rattle.mesh_types.specs.Portals.{edge_begin, edge_end}
use Rattle.mesh_types.specs.WholeMesh.{poly_at}
use Rattle.path_queries.specs.Filters.{Enters}

-- a point in sixteenths as a fine one
abbrev pub fine_of : Point → Point
fine_of p = record { x = pos 16 *ℤ p.x; z = pos 16 *ℤ p.z }

-- on which side of an edge a fine point lies: positive to its left, negative to its right, 0 on its line
abbrev pub fine_side : Polygon → ℕ → Point → ℤ
fine_side polygon edge p = orient_of (fine_of (edge_begin polygon edge)) (fine_of (edge_end polygon edge)) p

-- a polygon holds a fine point: it lies to the left of each edge or on its line
abbrev pub FineHolds : Polygon → Point → Type 0
FineHolds polygon p = (edge : ℕ) → edge < length polygon.corners → pos 0 ≤ℤ fine_side polygon edge p

-- the polygon that a reference names holds a fine point
pub record IsFineHeld (mesh : Mesh) (p : Point) (at : PolyRef) : Type 0 where
  pub polygon : Polygon
  pub there : poly_at mesh at ≡ Some polygon
  pub holds : FineHolds polygon p

-- an edge is an exit toward a point: the point lies to its right
pub record IsFineExit (polygon : Polygon) (to : Point) (edge : ℕ) : Type 0 where
  pub there : edge < length polygon.corners
  pub beyond : fine_side polygon edge to <ℤ pos 0

-- the exit fraction tells how far along a way the line of an edge is met: `fine_side` of the way's begin is its numerator, and this its
-- denominator
abbrev pub fine_den : Polygon → Point → Point → ℕ → ℤ
fine_den polygon from to edge = fine_side polygon edge from -ℤ fine_side polygon edge to

-- an exit of least fraction, compared crosswise
pub record IsLeastFineExit (polygon : Polygon) (from to : Point) (edge : ℕ) : Type 0 where
  pub exit : IsFineExit polygon to edge
  pub least : (other : ℕ) → IsFineExit polygon to other
      → (fine_side polygon edge from *ℤ fine_den polygon from to other) ≤ℤ (fine_side polygon other from *ℤ fine_den polygon from to edge)

-- a way meets a portal: the left end does not lie to the right of the way, nor the right end to the left of it
pub record FineMeets (from to : Point) (portal : Portal) : Type 0 where
  pub left : pos 0 ≤ℤ orient_of from to (fine_of portal.left)
  pub right : orient_of from to (fine_of portal.right) ≤ℤ pos 0

-- a link leads on from a polygon: over an exit of least fraction, through a portal that the way meets, into a polygon of an open area that was
-- not yet visited. A polygon of a closed area may be left
pub record LeadsFine (mesh : Mesh) (areas : ℕ) (from to : Point) (at : PolyRef) (visited : List PolyRef) (link : Link) : Type 0 where
  pub listed : IsLinkOf mesh link
  pub leaves : link.from ≡ at
  pub polygon : Polygon
  pub there : poly_at mesh at ≡ Some polygon
  pub over : IsLeastFineExit polygon from to link.edge
  pub meets : FineMeets from to link.portal
  pub fresh : Contains visited link.to → ⊥
  pub enters : Enters mesh areas link

-- of the links that lead on, the first in the order of links
pub record IsNextFine (mesh : Mesh) (areas : ℕ) (from to : Point) (at : PolyRef) (visited : List PolyRef) (link : Link) : Type 0 where
  pub leads_on : LeadsFine mesh areas from to at visited link
  pub first : (other : Link) → LeadsFine mesh areas from to at visited other → link_cmp other link ≢ Less

-- a way that has visited polygons and is in one of them goes on over these links, each the next one where it is taken, and ends in a polygon
-- that holds its end
abbrev pub GoesFine : Mesh → ℕ → Point → Point → PolyRef → List PolyRef → List Link → PolyRef → Type 0
GoesFine mesh areas from to at visited [] last = (at ≡ last) × IsFineHeld mesh to at
GoesFine mesh areas from to at visited (link ∷ links) last =
    IsNextFine mesh areas from to at visited link × GoesFine mesh areas from to link.to (link.to ∷ visited) links last

-- the straight way from a point, begun in a polygon, to another point: over fewer than 24 links
pub record IsFineWay (mesh : Mesh) (areas : ℕ) (first : PolyRef) (from to : Point) (links : List Link) (last : PolyRef) : Type 0 where
  pub goes : GoesFine mesh areas from to first (first ∷ []) links last
  pub few : length links < 24

-- there is such a way
pub record HasFineWay (mesh : Mesh) (areas : ℕ) (first : PolyRef) (from to : Point) : Type 0 where
  pub links : List Link
  pub last : PolyRef
  pub way : IsFineWay mesh areas first from to links last

-- the least and the greatest floor of a polygon of the mesh
abbrev pub low_at : Mesh → PolyRef → ℕ
low_at mesh at = option_map_or (λ (polygon : Polygon). polygon.low) (poly_at mesh at) 0

abbrev pub high_at : Mesh → PolyRef → ℕ
high_at mesh at = option_map_or (λ (polygon : Polygon). polygon.high) (poly_at mesh at) 0

-- the least and the greatest floor of all polygons that a way passes over: the one in which it begins, and those that its links enter
abbrev pub low_over : Mesh → PolyRef → List Link → ℕ
low_over mesh at [] = low_at mesh at
low_over mesh at (link ∷ links) = min (low_at mesh at) (low_over mesh link.to links)

abbrev pub high_over : Mesh → PolyRef → List Link → ℕ
high_over mesh at [] = high_at mesh at
high_over mesh at (link ∷ links) = max (high_at mesh at) (high_over mesh link.to links)
