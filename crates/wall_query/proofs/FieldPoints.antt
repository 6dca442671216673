-- Points that lie in the field: those that polygons hold, ends of portals, and ends of edges.
use Rattle.std.proofs.Common.{◌≡◌, ℕ, ◌<◌, ℤ, pos, ◌*ℤ◌, ◌≤ℤ◌, length, sym, subst, arith}
use Rattle.std.specs.Prelude.{Some}
use Rattle.std.proofs.lemmas.Int.{ints}
use Rattle.nav_base.specs.declared.point.Point.{Point}
use Rattle.nav_base.specs.Convex.{corner_at, place_after}
use Rattle.nav_base.specs.Point.{IsCellCorner, IsInField}
use Rattle.nav_base.proofs.ConvexLaws.{place_after-in}
use Rattle.mesh_types.specs.declared.links.Link.{Link}
use Rattle.mesh_types.specs.declared.links.PolyRef.{PolyRef}
use Rattle.mesh_types.specs.declared.mesh.Mesh.{Mesh}
use Rattle.mesh_types.specs.declared.polygon.Polygon.{Polygon}
use Rattle.mesh_types.specs.FitTiles.{IsPolygon}
use Rattle.mesh_types.specs.Located.{Holds}
use Rattle.mesh_types.specs.BorderLinks.{scaled}
use Rattle.mesh_types.specs.Portals.{edge_begin, edge_end}
use Rattle.mesh_types.specs.Soundness.{IsSound}
use Rattle.mesh_types.specs.WholeMesh.{poly_at}
use Rattle.mesh_types.proofs.HeldPoints.{held_from_x, held_to_x, held_from_z, held_to_z}
use Rattle.mesh_types.proofs.MeshLinks.{IsHeldIn, ends_left}
use Rattle.mesh_types.proofs.MeshPolygons.{placed}
use Rattle.wall_slide.specs.Gathers.{IsLeading}
use Rattle.wall_query.specs.declared.around.Around.{Around}
use Rattle.wall_query.specs.declared.parts.PolygonEdge.{PolygonEdge}
use Rattle.wall_query.specs.Around.{StandsIn}
use Rattle.wall_query.specs.Parts.{IsEdgeOf}

-- what a polygon holds
held_in_field : (polygon : Polygon) (q : Point) → IsPolygon polygon → Holds polygon q → IsInField q
held_in_field polygon q rules holds = record {
  left = least q.x (held_from_x polygon q (pos 0) rules.convex holds (λ k d there. (rules.corners k d there).left));
  right = most q.x (held_to_x polygon q (pos 1024) rules.convex holds (λ k d there. (rules.corners k d there).right));
  bottom = least q.z (held_from_z polygon q (pos 0) rules.convex holds (λ k d there. (rules.corners k d there).bottom));
  top = most q.z (held_to_z polygon q (pos 1024) rules.convex holds (λ k d there. (rules.corners k d there).top));
}
  where
    least : (n : ℤ) → (pos 16 *ℤ pos 0) ≤ℤ n → pos 0 ≤ℤ n
    least n h = omega (arith, ints)

    most : (n : ℤ) → n ≤ℤ (pos 16 *ℤ pos 1024) → n ≤ℤ pos 16384
    most n h = omega (arith, ints)

-- what a polygon of a sound mesh holds
pub held_field : (mesh : Mesh) (at : PolyRef) (polygon : Polygon) (p : Point) → IsSound mesh → poly_at mesh at ≡ Some polygon → Holds polygon p → IsInField p
held_field mesh at polygon p sound there holds = held_in_field polygon p (placed mesh at polygon sound there).rules holds

-- the place that is looked from
pub start_field : (mesh : Mesh) (around : Around) → IsSound mesh → StandsIn mesh around → IsInField around.from.point
start_field mesh around sound stands = held_field mesh around.from.polygon stands.polygon around.from.point sound stands.there stands.holds

-- the ends of a portal
pub record HasFieldEnds (link : Link) : Type 0 where
  pub left : IsInField link.portal.left
  pub right : IsInField link.portal.right

pub portal_field : (mesh : Mesh) (link : Link) → IsSound mesh → IsLeading mesh link → HasFieldEnds link
portal_field mesh link sound lead =
    let ends = ends_left mesh link sound lead in
    record { left = in_field link.portal.left ends.left; right = in_field link.portal.right ends.right }
  where
    in_field : (p : Point) → IsHeldIn mesh link.from p → IsInField p
    in_field p held = held_field mesh link.from held.polygon p sound held.there held.holds

-- the ends of an edge
scaled_field : (p : Point) → IsCellCorner p → IsInField (scaled p.x p.z)
scaled_field p is = record { left = least p.x is.left; right = most p.x is.right; bottom = least p.z is.bottom; top = most p.z is.top }
  where
    least : (n : ℤ) → pos 0 ≤ℤ n → pos 0 ≤ℤ (pos 16 *ℤ n)
    least n h = omega (arith, ints)

    most : (n : ℤ) → n ≤ℤ pos 1024 → (pos 16 *ℤ n) ≤ℤ pos 16384
    most n h = omega (arith, ints)

pub begin_field : (polygon : Polygon) (n : ℕ) → IsPolygon polygon → n < length polygon.corners → IsInField (edge_begin polygon n)
begin_field polygon n rules there = scaled_field (corner_at polygon.corners n) (rules.corners n (record { x = pos 0; z = pos 0 }) there)

pub end_field : (polygon : Polygon) (n : ℕ) → IsPolygon polygon → n < length polygon.corners → IsInField (edge_end polygon n)
end_field polygon n rules there = begin_field polygon (place_after (length polygon.corners) n) rules (place_after-in (length polygon.corners) n there)

pub record HasFieldEdge (edge : PolygonEdge) : Type 0 where
  pub begin : IsInField edge.begin
  pub end : IsInField edge.end

pub edge_field : (mesh : Mesh) (edge : PolygonEdge) → IsSound mesh → IsEdgeOf mesh edge → HasFieldEdge edge
edge_field mesh edge sound of =
    let rules = (placed mesh edge.polygon of.polygon sound of.there).rules in
    record {
      begin = subst IsInField (sym of.begins) (begin_field of.polygon edge.edge rules of.is_edge);
      end = subst IsInField (sym of.ends) (end_field of.polygon edge.edge rules of.is_edge);
    }
