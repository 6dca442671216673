-- What the arc of an off-mesh link weighs, and which step it takes, by its place among the off-mesh links of its polygon.
use Rattle.std.proofs.Common.{◌≡◌, ℕ, ◌+◌, ◌<◌, List, length, sym, ap, ◌∙◌}
use Rattle.std.specs.Prelude.{slice_index_or}
use Rattle.std.proofs.lemmas.List.Elements.{All-contains, All-weaker, Contains-get_or}
use Rattle.std.specs.Prelude.{All}
use Rattle.mesh_types.specs.declared.links.PolyRef.{PolyRef}
use Rattle.mesh_types.specs.declared.mesh.Mesh.{Mesh}
use Rattle.mesh_types.specs.declared.answers.Jump.{Jump}
use Rattle.mesh_types.specs.Hops.{step_weight}
use Rattle.graph_search.specs.declared.graph.Arc.{Arc}
use Rattle.graph_search.specs.declared.graph.Step.{Step}
use Rattle.graph_search.specs.Walks.{arc_of}
use Rattle.corridor_search.specs.MeshGraphs.{polygon_of, links_from}
use Rattle.corridor_search.proofs.Lists.{kept_element}
use Rattle.off_links.specs.declared.off_mesh_links.OffMeshLink.{OffMeshLink}
use Rattle.off_links.specs.OffMeshLinks.{AreOffMeshLinks, HasPlace, IsOffMeshLink, leaves, no_off_mesh_link}
use Rattle.off_links.specs.HopGraphs.{IsHopped, off_mesh_link_step, off_mesh_links_from, steps_from, hop_arcs, hop_step}
use Rattle.off_links.proofs.Arcs.{arc-of-step, past-there, step-of-off_mesh_link, step-there}
use Rattle.off_links.proofs.Searched.{off_mesh_link-weight}

-- the places of the polygons that off-mesh links leave are small
pub small_places : (mesh : Mesh) (jumps : List Jump) (off_mesh_links : List OffMeshLink) → AreOffMeshLinks mesh jumps off_mesh_links → All HasPlace off_mesh_links
small_places mesh jumps off_mesh_links are = All-weaker (IsOffMeshLink mesh jumps) HasPlace (λ off_mesh_link is. is.own.place) off_mesh_links are.each

-- the off-mesh link found at a place past the links
pub off_mesh_link-found : (mesh : Mesh) (off_mesh_links : List OffMeshLink) (step : Step) (past : ℕ) (off_mesh_link : OffMeshLink) (at : PolyRef) → step.place < length (steps_from mesh off_mesh_links step.from)
    → step.place ≡ length (links_from mesh (polygon_of step.from)) + past → at ≡ polygon_of step.from → off_mesh_link ≡ slice_index_or (off_mesh_links_from off_mesh_links at) past no_off_mesh_link
    → off_mesh_link_step off_mesh_link ≡ hop_step mesh off_mesh_links step
off_mesh_link-found mesh off_mesh_links step past off_mesh_link at below is here found =
    ap off_mesh_link_step (found ∙ ap (λ (p : PolyRef). slice_index_or (off_mesh_links_from off_mesh_links p) past no_off_mesh_link) here)
    ∙ sym (step-of-off_mesh_link mesh off_mesh_links step past is (past-there mesh off_mesh_links step past is below))

pub off_mesh_link-costs : (mesh : Mesh) (jumps : List Jump) (off_mesh_links : List OffMeshLink) (step : Step) (past : ℕ) (off_mesh_link : OffMeshLink) (at : PolyRef) → IsHopped mesh jumps off_mesh_links
    → step.place < length (hop_arcs mesh jumps off_mesh_links step.from) → step.place ≡ length (links_from mesh (polygon_of step.from)) + past → at ≡ polygon_of step.from
    → off_mesh_link ≡ slice_index_or (off_mesh_links_from off_mesh_links at) past no_off_mesh_link → off_mesh_link.cost ≡ (arc_of (hop_arcs mesh jumps off_mesh_links) step).weight
off_mesh_link-costs mesh jumps off_mesh_links step past off_mesh_link at rules below is here found =
    let own = off_mesh_links_from off_mesh_links (polygon_of step.from) in
    let below' = step-there mesh jumps off_mesh_links step below in
    let there = past-there mesh off_mesh_links step past is below' in
    let same : off_mesh_link ≡ slice_index_or own past no_off_mesh_link = found ∙ ap (λ (p : PolyRef). slice_index_or (off_mesh_links_from off_mesh_links p) past no_off_mesh_link) here in
    let held = kept_element (leaves (polygon_of step.from)) off_mesh_links (slice_index_or own past no_off_mesh_link) (Contains-get_or own past no_off_mesh_link there) in
    let is_off_mesh_link = All-contains (IsOffMeshLink mesh jumps) off_mesh_links (slice_index_or own past no_off_mesh_link) rules.off_mesh_links_are.each held in
    ap (λ (l : OffMeshLink). l.cost) same
    ∙ sym (off_mesh_link-weight mesh jumps (slice_index_or own past no_off_mesh_link) is_off_mesh_link)
    ∙ ap (step_weight mesh jumps) (sym (step-of-off_mesh_link mesh off_mesh_links step past is there))
    ∙ ap (λ (arc : Arc). arc.weight) (sym (arc-of-step mesh jumps off_mesh_links step below))
