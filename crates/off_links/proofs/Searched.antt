-- A sound mesh with off-mesh links is a graph that may be searched.
use Rattle.std.proofs.Common.{◌≡◌, ◌+◌, ◌≤◌, List, length, map, get_or, sym, ap, ◌∙◌, arith}
use Rattle.std.specs.Prelude.{All, Contains, Option}
use Rattle.std.specs.Option.{option_map_or}
use Rattle.std.proofs.lemmas.Nat.{mul-le}
use Rattle.std.proofs.lemmas.Option.{slice_get-get_or}
use Rattle.std.proofs.lemmas.List.Elements.{All-append, All-contains, All-map, Contains-get_or}
use Rattle.mesh_types.specs.declared.links.Link.{Link}
use Rattle.mesh_types.specs.declared.mesh.Mesh.{Mesh}
use Rattle.mesh_types.specs.Corridors.{weight_of}
use Rattle.mesh_types.specs.declared.answers.Jump.{Jump}
use Rattle.mesh_types.specs.declared.answers.HopStep.{HopStep}
use Rattle.mesh_types.specs.Hops.{step_weight}
use Rattle.mesh_types.specs.Stretches.{jump_at, some_jump}
use Rattle.graph_search.specs.declared.graph.Vertex.{Vertex}
use Rattle.graph_search.specs.declared.graph.Arc.{Arc}
use Rattle.graph_search.specs.Walks.{IsSearchable}
use Rattle.corridor_search.specs.MeshGraphs.{polygon_of, vertices_of, links_from}
use Rattle.corridor_search.proofs.Lists.{kept_element}
use Rattle.corridor_search.proofs.LinkWeights.{weight-most}
use Rattle.corridor_search.proofs.Searchable.{enters-there, vertices-few}
use Rattle.corridor_search.proofs.Sound.{leads}
use Rattle.corridor_search.proofs.Vertices.{there-contains}
use Rattle.off_links.specs.declared.off_mesh_links.OffMeshLink.{OffMeshLink}
use Rattle.off_links.specs.OffMeshLinks.{IsOffMeshLink, leaves}
use Rattle.off_links.specs.HopGraphs.{IsHopped, link_step, off_mesh_link_step, off_mesh_links_from, steps_from, hop_arc, hop_arcs, no_estimate}
use Rattle.off_links.proofs.Polygons.{located_there}

-- the jump of an off-mesh link stands at its number, so the off-mesh link's step weighs what the off-mesh link costs
pub off_mesh_link-weight : (mesh : Mesh) (jumps : List Jump) (off_mesh_link : OffMeshLink) → IsOffMeshLink mesh jumps off_mesh_link → step_weight mesh jumps (off_mesh_link_step off_mesh_link) ≡ off_mesh_link.cost
off_mesh_link-weight mesh jumps off_mesh_link is =
    ap (λ (o : Option Jump). option_map_or (λ (jump : Jump). jump.cost) o 0) (slice_get-get_or jumps off_mesh_link.number some_jump is.named) ∙ sym is.own.costs

-- what holds of the arcs of links and of off-mesh links holds of the arcs that leave a vertex
each-arc : (mesh : Mesh) (jumps : List Jump) (off_mesh_links : List OffMeshLink) (v : Vertex) (P : Arc → Type 0)
    → ((link : Link) → Contains (links_from mesh (polygon_of v)) link → P (hop_arc mesh jumps (link_step link)))
    → ((off_mesh_link : OffMeshLink) → Contains off_mesh_links off_mesh_link → P (hop_arc mesh jumps (off_mesh_link_step off_mesh_link))) → All P (hop_arcs mesh jumps off_mesh_links v)
each-arc mesh jumps off_mesh_links v P on_link on_off_mesh_link =
    let ls : List Link = links_from mesh (polygon_of v) in
    let fs : List OffMeshLink = off_mesh_links_from off_mesh_links (polygon_of v) in
    All-map P (hop_arc mesh jumps) (steps_from mesh off_mesh_links v)
    (All-append (λ (step : HopStep). P (hop_arc mesh jumps step)) (map link_step ls) (map off_mesh_link_step fs)
    (All-map (λ (step : HopStep). P (hop_arc mesh jumps step)) link_step ls (λ k d there. on_link (get_or ls k d) (Contains-get_or ls k d there)))
    (All-map (λ (step : HopStep). P (hop_arc mesh jumps step)) off_mesh_link_step fs
    (λ k d there. on_off_mesh_link (get_or fs k d) (kept_element (leaves (polygon_of v)) off_mesh_links (get_or fs k d) (Contains-get_or fs k d there)))))

pub hops-searchable : (mesh : Mesh) (jumps : List Jump) (off_mesh_links : List OffMeshLink) → IsHopped mesh jumps off_mesh_links
    → IsSearchable (vertices_of mesh) (hop_arcs mesh jumps off_mesh_links) no_estimate 4294967295
hops-searchable mesh jumps off_mesh_links rules = record {
  enters = λ v member. each-arc mesh jumps off_mesh_links v (λ arc. Contains (vertices_of mesh) arc.to)
      (λ link held. there-contains mesh link.to (enters-there mesh (polygon_of v) link rules.sound held))
      (λ off_mesh_link held.
      let jump = jump_at jumps off_mesh_link.number in
      there-contains mesh off_mesh_link.to (located_there mesh jump.to jump.to_y off_mesh_link.to (is_off_mesh_link off_mesh_link held).own.joined.landing));
  weights = λ v member. each-arc mesh jumps off_mesh_links v (λ arc. arc.weight ≤ 4294967295)
      (λ link held.
      let most : weight_of mesh link ≤ 2897000 = weight-most mesh link rules.sound rules.setting (leads mesh (polygon_of v) link rules.sound held).through in
      omega (arith, most))
      (λ off_mesh_link held. omega (arith, off_mesh_link-weight mesh jumps off_mesh_link (is_off_mesh_link off_mesh_link held), (is_off_mesh_link off_mesh_link held).own.light));
  consistent = λ v member. each-arc mesh jumps off_mesh_links v (λ arc. no_estimate v ≤ arc.weight + no_estimate arc.to) (λ link held. omega arith) (λ off_mesh_link held. omega arith);
  few = omega (arith, vertices-few mesh rules.sound);
  small = λ v member. omega (arith, mul-le (length (vertices_of mesh)) 4294967295 8000000 4294967295 (vertices-few mesh rules.sound) (omega arith));
}
  where
    is_off_mesh_link : (off_mesh_link : OffMeshLink) → Contains off_mesh_links off_mesh_link → IsOffMeshLink mesh jumps off_mesh_link
    is_off_mesh_link off_mesh_link held = All-contains (IsOffMeshLink mesh jumps) off_mesh_links off_mesh_link rules.off_mesh_links_are.each held
