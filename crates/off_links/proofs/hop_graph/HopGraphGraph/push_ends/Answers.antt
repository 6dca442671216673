use Rattle.std.proofs.Common.{◌++◌, List, map, append_assoc, ap, ◌∙◌}
use Rattle.std.proofs.lemmas.Result.{on_ok_weaker}
use Rattle.mesh_types.specs.declared.links.PolyRef.{PolyRef}
use Rattle.graph_search.specs.declared.graph.Vertex.{Vertex}
use Rattle.corridor_search.specs.MeshGraphs.{links_from, end_of, polygon_of}
use Rattle.off_links.specs.declared.off_mesh_links.OffMeshLink.{OffMeshLink}
use Rattle.off_links.specs.HopGraphs.{off_mesh_link_end, off_mesh_links_from}
use Rattle.off_links.proofs.Arcs.{hop-ends}
use Rattle.off_links.proofs.Weights.{small_places}
use Rattle.off_links.proofs.hop_graph.HopGraphGraph.push_ends.Goals as goal

pub leaving_by_slot-requires-clause-order : goal.leaving_by_slot-requires-clause-order
leaving_by_slot-requires-clause-order c = c.requires.sound.hopped.off_mesh_links_are.order

pub leaving_by_slot-requires-clause-places : goal.leaving_by_slot-requires-clause-places
leaving_by_slot-requires-clause-places c = small_places _ _ _ c.requires.sound.hopped.off_mesh_links_are

pub returns : goal.returns
returns c =
    let mesh = c.args.self.now.mesh.now in
    let off_mesh_links = c.args.self.now.off_mesh_links.now in
    let old = c.args.ends.now.items in
    let at = c.polygon_at-at.result in
    on_ok_weaker c.push_off_mesh_link_ends.result
    (λ next. next ∙ ap (λ (vs : List Vertex). vs ++ map off_mesh_link_end c.leaving_by_slot.result.now) c.in_ok-push_link_ends.ensures
    ∙ ap (λ (fs : List OffMeshLink). (old ++ map end_of (links_from mesh at)) ++ map off_mesh_link_end fs) c.leaving_by_slot.ensures
    ∙ append_assoc old (map end_of (links_from mesh at)) (map off_mesh_link_end (off_mesh_links_from off_mesh_links at))
    ∙ ap (λ (p : PolyRef). old ++ (map end_of (links_from mesh p) ++ map off_mesh_link_end (off_mesh_links_from off_mesh_links p))) c.polygon_at-at.ensures
    ∙ ap (λ (vs : List Vertex). old ++ vs)
    (hop-ends mesh c.args.self.now.jumps.now (links_from mesh (polygon_of c.args.from)) (off_mesh_links_from off_mesh_links (polygon_of c.args.from)))) c.push_off_mesh_link_ends.ensures
