-- Rays: a straight walk from one point toward another, from polygon to polygon, as far as links lead along it. Points are in sixteenths.
use Rattle.std.specs.Prelude.{◌≡◌, ◌≢◌, ℕ, ◌<◌, ◌≤◌, ℤ, pos, ◌-ℤ◌, ◌*ℤ◌, ◌≤ℤ◌, ◌<ℤ◌, List, [], ◌∷◌, length, Some, Contains}
use Rattle.std.specs.declared.cmp.Ordering.TheVariants.{Less}
use Rattle.nav_base.specs.declared.point.Point.{Point}
use Rattle.nav_base.specs.Point.{orient_of}
use Rattle.mesh_types.specs.declared.answers.RayAnswer.{RayAnswer}
use Rattle.mesh_types.specs.declared.answers.RayAnswer.TheVariants.{Reached, Wall}
use Rattle.mesh_types.specs.declared.links.Link.{Link}
use Rattle.mesh_types.specs.declared.links.PolyRef.{PolyRef}
use Rattle.mesh_types.specs.declared.links.Portal.{Portal}
use Rattle.mesh_types.specs.declared.mesh.Mesh.{Mesh}
use Rattle.mesh_types.specs.declared.polygon.Polygon.{Polygon}
use Rattle.mesh_types.specs.Corridors.{IsLinkOf}
use Rattle.mesh_types.specs.LinkOrder.{link_cmp}
use Rattle.mesh_types.specs.Located.{Holds}
use Rattle.mesh_types.specs.Portals.{edge_begin, edge_end}
use Rattle.mesh_types.specs.WholeMesh.{poly_at}

-- the polygon that a reference names holds a point of the plane
pub record IsHeldAt (mesh : Mesh) (p : Point) (at : PolyRef) : Type 0 where
  pub polygon : Polygon
  pub there : poly_at mesh at ≡ Some polygon
  pub holds : Holds polygon p

-- on which side of an edge a point lies: positive to its left, negative to its right, 0 on its line
abbrev pub side_of : Polygon → ℕ → Point → ℤ
side_of polygon edge p = orient_of (edge_begin polygon edge) (edge_end polygon edge) p

-- an edge is an exit toward a point: the point lies to its right
pub record IsExit (polygon : Polygon) (to : Point) (edge : ℕ) : Type 0 where
  pub there : edge < length polygon.corners
  pub beyond : side_of polygon edge to <ℤ pos 0

-- the exit fraction tells how far along the way between two points the line of an edge is met: `side_of` of the first point is its numerator,
-- and this its denominator
abbrev pub exit_den : Polygon → Point → Point → ℕ → ℤ
exit_den polygon from to edge = side_of polygon edge from -ℤ side_of polygon edge to

-- an exit of least fraction, compared crosswise
pub record IsLeastExit (polygon : Polygon) (from to : Point) (edge : ℕ) : Type 0 where
  pub exit : IsExit polygon to edge
  pub least : (other : ℕ) → IsExit polygon to other
      → (side_of polygon edge from *ℤ exit_den polygon from to other) ≤ℤ (side_of polygon other from *ℤ exit_den polygon from to edge)

-- of the exits of least fraction the first
pub record IsFirstExit (polygon : Polygon) (from to : Point) (edge : ℕ) : Type 0 where
  pub is_least : IsLeastExit polygon from to edge
  pub first : (other : ℕ) → IsLeastExit polygon from to other → edge ≤ other

-- a ray meets a portal: the left end does not lie to the right of the ray, nor the right end to the left of it
pub record Meets (from to : Point) (portal : Portal) : Type 0 where
  pub left : pos 0 ≤ℤ orient_of from to portal.left
  pub right : orient_of from to portal.right ≤ℤ pos 0

-- a link leads on from a polygon: over an exit of least fraction, through a portal that the ray meets, into a polygon not yet visited
pub record LeadsOn (mesh : Mesh) (from to : Point) (at : PolyRef) (visited : List PolyRef) (link : Link) : Type 0 where
  pub listed : IsLinkOf mesh link
  pub leaves : link.from ≡ at
  pub polygon : Polygon
  pub there : poly_at mesh at ≡ Some polygon
  pub over : IsLeastExit polygon from to link.edge
  pub meets : Meets from to link.portal
  pub fresh : Contains visited link.to → ⊥

-- of the links that lead on, the first in the order of links
pub record IsNext (mesh : Mesh) (from to : Point) (at : PolyRef) (visited : List PolyRef) (link : Link) : Type 0 where
  pub leads_on : LeadsOn mesh from to at visited link
  pub first : (other : Link) → LeadsOn mesh from to at visited other → link_cmp other link ≢ Less

-- a wall: no link leads on, and the exit of least fraction, the first of several, is the edge from a to b, met at num / den
pub record IsWall (mesh : Mesh) (from to : Point) (at : PolyRef) (visited : List PolyRef) (a b : Point) (num den : ℤ) : Type 0 where
  pub polygon : Polygon
  pub there : poly_at mesh at ≡ Some polygon
  pub edge : ℕ
  pub exit : IsFirstExit polygon from to edge
  pub begins : a ≡ edge_begin polygon edge
  pub ends : b ≡ edge_end polygon edge
  pub num_is : num ≡ side_of polygon edge from
  pub den_is : den ≡ exit_den polygon from to edge
  pub closed : (link : Link) → LeadsOn mesh from to at visited link → ⊥

-- a walk ends in a polygon: the polygon holds the point that the walk makes for, or there is a wall
abbrev pub EndsIn : Mesh → Point → Point → PolyRef → List PolyRef → RayAnswer → Type 0
EndsIn mesh from to at visited (Reached last) = (last ≡ at) × IsHeldAt mesh to at
EndsIn mesh from to at visited (Wall a b num den) = IsWall mesh from to at visited a b num den

-- a walk that has visited polygons and is in one of them takes these links, each the next one where it is taken, and ends with this answer
abbrev pub GoesOn : Mesh → Point → Point → PolyRef → List PolyRef → List Link → RayAnswer → Type 0
GoesOn mesh from to at visited [] answer = EndsIn mesh from to at visited answer
GoesOn mesh from to at visited (link ∷ links) answer =
    IsNext mesh from to at visited link × GoesOn mesh from to link.to (link.to ∷ visited) links answer

-- the ray walk from one point toward another, begun in a polygon, ends with this answer
pub record IsRayWalk (mesh : Mesh) (first : PolyRef) (from to : Point) (answer : RayAnswer) : Type 0 where
  pub links : List Link
  pub goes : GoesOn mesh from to first (first ∷ []) links answer
