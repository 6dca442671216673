-- The steps that lead from a vertex, by their places, and their arcs.
use Rattle.std.proofs.Common.{◌≡◌, ℕ, ◌+◌, ◌<◌, List, [], ◌∷◌, ◌++◌, length, map, get_or, refl, sym, ap, ◌∙◌, arith}
use Rattle.std.specs.Prelude.{slice_index_or}
use Rattle.std.proofs.lemmas.List.{get_or-map, get_or_append_left, get_or-append-add, length-map, length-append}
use Rattle.mesh_types.specs.declared.links.Link.{Link}
use Rattle.mesh_types.specs.declared.answers.Jump.{Jump}
use Rattle.mesh_types.specs.declared.mesh.Mesh.{Mesh}
use Rattle.graph_search.specs.declared.graph.Vertex.{Vertex}
use Rattle.graph_search.specs.declared.graph.Step.{Step}
use Rattle.graph_search.specs.Walks.{no_arc, arc_of, ends_of}
use Rattle.corridor_search.specs.MeshGraphs.{polygon_of, links_from, no_link, link_of, end_of, arcs_from}
use Rattle.corridor_search.proofs.MeshWalks.{arc-over-link}
use Rattle.off_links.specs.declared.off_mesh_links.OffMeshLink.{OffMeshLink}
use Rattle.off_links.specs.OffMeshLinks.{no_off_mesh_link}
use Rattle.off_links.specs.HopGraphs.{link_step, off_mesh_link_step, no_step, off_mesh_links_from, steps_from, hop_arc, hop_arcs, hop_step, off_mesh_link_end}

-- the step at a place is that of a link, or, past the links, that of an off-mesh link
pub step-of-link : (mesh : Mesh) (off_mesh_links : List OffMeshLink) (step : Step) → step.place < length (links_from mesh (polygon_of step.from))
    → hop_step mesh off_mesh_links step ≡ link_step (link_of mesh step)
step-of-link mesh off_mesh_links step there =
    let ls : List Link = links_from mesh (polygon_of step.from) in
    let fs : List OffMeshLink = off_mesh_links_from off_mesh_links (polygon_of step.from) in
    get_or_append_left (map link_step ls) (map off_mesh_link_step fs) no_step step.place (omega (arith, there, length-map ls link_step))
    ∙ get_or-map link_step ls step.place no_link no_step there

pub past-there : (mesh : Mesh) (off_mesh_links : List OffMeshLink) (step : Step) (past : ℕ) → step.place ≡ length (links_from mesh (polygon_of step.from)) + past
    → step.place < length (steps_from mesh off_mesh_links step.from) → past < length (off_mesh_links_from off_mesh_links (polygon_of step.from))
past-there mesh off_mesh_links step past is there =
    let ls : List Link = links_from mesh (polygon_of step.from) in
    let fs : List OffMeshLink = off_mesh_links_from off_mesh_links (polygon_of step.from) in
    omega (arith, is, there, length-append (map link_step ls) (map off_mesh_link_step fs), length-map ls link_step, length-map fs off_mesh_link_step)

pub step-of-off_mesh_link : (mesh : Mesh) (off_mesh_links : List OffMeshLink) (step : Step) (past : ℕ) → step.place ≡ length (links_from mesh (polygon_of step.from)) + past
    → past < length (off_mesh_links_from off_mesh_links (polygon_of step.from))
    → hop_step mesh off_mesh_links step ≡ off_mesh_link_step (slice_index_or (off_mesh_links_from off_mesh_links (polygon_of step.from)) past no_off_mesh_link)
step-of-off_mesh_link mesh off_mesh_links step past is there =
    let ls : List Link = links_from mesh (polygon_of step.from) in
    let fs : List OffMeshLink = off_mesh_links_from off_mesh_links (polygon_of step.from) in
    let place : step.place ≡ length (map link_step ls) + past = omega (arith, is, length-map ls link_step) in
    ap (λ (n : ℕ). get_or (map link_step ls ++ map off_mesh_link_step fs) n no_step) place
    ∙ get_or-append-add (map link_step ls) (map off_mesh_link_step fs) past no_step
    ∙ get_or-map off_mesh_link_step fs past no_off_mesh_link no_step there

-- so is its arc
pub arc-of-step : (mesh : Mesh) (jumps : List Jump) (off_mesh_links : List OffMeshLink) (step : Step) → step.place < length (hop_arcs mesh jumps off_mesh_links step.from)
    → arc_of (hop_arcs mesh jumps off_mesh_links) step ≡ hop_arc mesh jumps (hop_step mesh off_mesh_links step)
arc-of-step mesh jumps off_mesh_links step below =
    get_or-map (hop_arc mesh jumps) (steps_from mesh off_mesh_links step.from) step.place no_step no_arc
    (omega (arith, below, length-map (steps_from mesh off_mesh_links step.from) (hop_arc mesh jumps)))

pub step-there : (mesh : Mesh) (jumps : List Jump) (off_mesh_links : List OffMeshLink) (step : Step) → step.place < length (hop_arcs mesh jumps off_mesh_links step.from)
    → step.place < length (steps_from mesh off_mesh_links step.from)
step-there mesh jumps off_mesh_links step below = omega (arith, below, length-map (steps_from mesh off_mesh_links step.from) (hop_arc mesh jumps))

-- of a link the arc is that in the graph of links alone
pub arc-of-link : (mesh : Mesh) (jumps : List Jump) (off_mesh_links : List OffMeshLink) (step : Step) → step.place < length (hop_arcs mesh jumps off_mesh_links step.from)
    → step.place < length (links_from mesh (polygon_of step.from)) → step.place < length (arcs_from mesh step.from)
    → arc_of (hop_arcs mesh jumps off_mesh_links) step ≡ arc_of (arcs_from mesh) step
arc-of-link mesh jumps off_mesh_links step below there below' =
    arc-of-step mesh jumps off_mesh_links step below ∙ ap (hop_arc mesh jumps) (step-of-link mesh off_mesh_links step there) ∙ sym (arc-over-link mesh step below')

-- the ends of the arcs that leave a vertex
pub hop-ends : (mesh : Mesh) (jumps : List Jump) (ls : List Link) (fs : List OffMeshLink)
    → map end_of ls ++ map off_mesh_link_end fs ≡ ends_of (map (hop_arc mesh jumps) (map link_step ls ++ map off_mesh_link_step fs))
hop-ends mesh jumps [] [] = refl
hop-ends mesh jumps [] (off_mesh_link ∷ fs) = ap (λ (ends : List Vertex). off_mesh_link_end off_mesh_link ∷ ends) (hop-ends mesh jumps [] fs)
hop-ends mesh jumps (link ∷ ls) fs = ap (λ (ends : List Vertex). end_of link ∷ ends) (hop-ends mesh jumps ls fs)
