-- A sound mesh is a graph that may be searched.
use Rattle.std.proofs.Common.{◌≡◌, ℕ, ◌<◌, ◌≤◌, ◌+◌, ◌*◌, List, [], ◌∷◌, length, map, get_or, refl, sym, subst, ap, ◌∙◌, arith}
use Rattle.std.specs.Prelude.{All, Contains, Some}
use Rattle.std.proofs.lemmas.Nat.{mul-le}
use Rattle.std.proofs.lemmas.List.Elements.{All-map, Contains-get_or}
use Rattle.nav_base.specs.declared.point.Point.{Point}
use Rattle.mesh_types.specs.declared.links.PolyRef.{PolyRef}
use Rattle.mesh_types.specs.declared.links.Link.{Link}
use Rattle.mesh_types.specs.declared.polygon.Polygon.{Polygon}
use Rattle.mesh_types.specs.declared.mesh.Mesh.{Mesh}
use Rattle.mesh_types.specs.LinkIndex.{entered_by}
use Rattle.mesh_types.specs.Corridors.{centre_of, weight_of}
use Rattle.mesh_types.specs.WholeMesh.{poly_at}
use Rattle.mesh_types.specs.Soundness.{IsSound}
use Rattle.graph_search.specs.declared.graph.Vertex.{Vertex}
use Rattle.graph_search.specs.declared.graph.Arc.{Arc}
use Rattle.graph_search.specs.declared.graph.Step.{Step}
use Rattle.graph_search.specs.Walks.{arc_of, ends_of, IsSearchable}
use Rattle.corridor_search.specs.MeshGraphs.{IsThere, vertex_of, polygon_of, vertices_of, links_from, arc_over, arcs_from, no_link, link_of, end_of, IsSearched}
use Rattle.corridor_search.specs.Estimates.{weight_from, estimate_from, CostsAtLeast, estimates_of}
use Rattle.corridor_search.proofs.Sound.{leads}
use Rattle.corridor_search.proofs.MeshWalks.{step-there, arc-over-link}
use Rattle.corridor_search.proofs.Vertices.{vertices-count, there-contains}
use Rattle.corridor_search.proofs.LinkWeights.{weight-by, weight-most, estimate-falls, estimate-most}

-- the polygon that a link enters is there
pub enters-there : (mesh : Mesh) (at : PolyRef) (link : Link) → IsSound mesh → Contains (links_from mesh at) link → IsThere mesh link.to
enters-there mesh at link sound held =
    let through = (leads mesh at link sound held).through in
    record { polygon = through.enters; is = through.is_entered }

-- the ends of the arcs that leave a polygon are those of its links
pub ends-are : (mesh : Mesh) (at : PolyRef) → map end_of (links_from mesh at) ≡ ends_of (arcs_from mesh (vertex_of at))
ends-are mesh at = each (links_from mesh at)
  where
    each : (links : List Link) → map end_of links ≡ ends_of (map (arc_over mesh) links)
    each [] = refl
    each (link ∷ links) = ap (λ (ends : List Vertex). end_of link ∷ ends) (each links)

-- the vertices of the polygons that links enter are their ends
pub ends-over : (links : List Link) → map vertex_of (map entered_by links) ≡ map end_of links
ends-over [] = refl
ends-over (link ∷ links) = ap (λ (ends : List Vertex). end_of link ∷ ends) (ends-over links)

-- the polygon that the arc of a step enters is there, and the arc weighs what its link does
pub step-enters : (mesh : Mesh) (step : Step) (to : Vertex) → IsSound mesh → step.place < length (arcs_from mesh step.from) → (arc_of (arcs_from mesh) step).to ≡ to
    → IsThere mesh (polygon_of to)
step-enters mesh step to sound below end =
    let there = step-there mesh step below in
    let entered = enters-there mesh (polygon_of step.from) (link_of mesh step) sound (Contains-get_or (links_from mesh (polygon_of step.from)) step.place no_link there) in
    let to_is : (link_of mesh step).to ≡ polygon_of to = ap (λ (arc : Arc). polygon_of arc.to) (sym (arc-over-link mesh step below)) ∙ ap polygon_of end in
    subst (IsThere mesh) to_is entered

pub step-weight : (mesh : Mesh) (step : Step) (to : Vertex) (polygon : Polygon) → IsSound mesh → step.place < length (arcs_from mesh step.from)
    → (arc_of (arcs_from mesh) step).to ≡ to → poly_at mesh (polygon_of step.from) ≡ Some polygon
    → weight_from mesh (centre_of polygon.corners) (polygon_of to) ≡ (arc_of (arcs_from mesh) step).weight
step-weight mesh step to polygon sound below end is =
    let there = step-there mesh step below in
    let link = link_of mesh step in
    let leading = leads mesh (polygon_of step.from) link sound (Contains-get_or (links_from mesh (polygon_of step.from)) step.place no_link there) in
    let from : poly_at mesh link.from ≡ Some polygon = ap (poly_at mesh) leading.leaves ∙ is in
    let to_is : polygon_of to ≡ link.to = ap polygon_of (sym end) ∙ ap (λ (arc : Arc). polygon_of arc.to) (arc-over-link mesh step below) in
    ap (weight_from mesh (centre_of polygon.corners)) to_is ∙ sym (weight-by mesh link polygon from) ∙ ap (λ (arc : Arc). arc.weight) (sym (arc-over-link mesh step below))

-- a sound mesh has few vertices
pub vertices-few : (mesh : Mesh) → IsSound mesh → length (vertices_of mesh) ≤ 8000000
vertices-few mesh sound =
    let count = vertices-count 0 mesh.tiles in
    let few = sound.tiles.few in
    omega (arith, count, few)

-- what holds of each link that leaves a polygon holds of each arc that leaves its vertex
pub each-arc : (mesh : Mesh) (v : Vertex) (P : Arc → Type 0) → ((link : Link) → Contains (links_from mesh (polygon_of v)) link → P (arc_over mesh link)) → All P (arcs_from mesh v)
each-arc mesh v P each =
    All-map P (arc_over mesh) (links_from mesh (polygon_of v)) (λ k d there.
    each (get_or (links_from mesh (polygon_of v)) k d) (Contains-get_or (links_from mesh (polygon_of v)) k d there))

-- an estimate is a distance in the field, at a cost
pub searchable : (mesh : Mesh) (goal : Point) (least : ℕ) → IsSearched mesh goal → CostsAtLeast mesh least
    → IsSearchable (vertices_of mesh) (arcs_from mesh) (estimates_of mesh goal least) 2897000
searchable mesh goal least rules cost = record {
  enters = λ v member. each-arc mesh v (λ arc. Contains (vertices_of mesh) arc.to) (λ link held.
      there-contains mesh link.to (enters-there mesh (polygon_of v) link rules.sound held));
  weights = λ v member. each-arc mesh v (λ arc. arc.weight ≤ 2897000) (λ link held.
      weight-most mesh link rules.sound rules.setting (leads mesh (polygon_of v) link rules.sound held).through);
  consistent = λ v member. each-arc mesh v (λ arc. estimate_from mesh goal (polygon_of v) * least ≤ arc.weight + estimate_from mesh goal (polygon_of arc.to) * least) (λ link held.
      let leading = leads mesh (polygon_of v) link rules.sound held in
      subst (λ (at : PolyRef). estimate_from mesh goal at * least ≤ weight_of mesh link + estimate_from mesh goal link.to * least) leading.leaves
      (estimate-falls mesh link rules.sound rules.setting leading.through goal least cost));
  few = omega (arith, vertices-few mesh rules.sound);
  small = λ v member. omega (arith, mul-le (length (vertices_of mesh)) 2897000 8000000 2897000 (vertices-few mesh rules.sound) (omega arith), estimate-most mesh goal (polygon_of v) least rules.sound rules.setting rules.in_field cost);
}
