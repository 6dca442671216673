use Rattle.std.proofs.Common.{◌<◌, length, ap, subst, sym, ◌∙◌, arith}
use Rattle.std.proofs.lemmas.List.{length-map}
use Rattle.mesh_types.specs.declared.links.PolyRef.{PolyRef}
use Rattle.graph_search.specs.declared.graph.Arc.{Arc}
use Rattle.corridor_search.specs.MeshGraphs.{arc_over, arcs_from, links_from, polygon_of}
use Rattle.off_links.specs.HopGraphs.{off_mesh_links_from}
use Rattle.off_links.proofs.Arcs.{arc-of-link, past-there, step-there}
use Rattle.off_links.proofs.Weights.{off_mesh_link-costs, small_places}
use Rattle.off_links.proofs.hop_graph.HopGraphGraph.weight.Goals as goal

pub link_weight-requires-clause-place : goal.link_weight-requires-clause-place
link_weight-requires-clause-place c =
    let there = rw c.in-None.is at c.past_links.ensures.link in
    omega (arith, there, length-map (links_from c.args.self.now.mesh.now (polygon_of c.args.step.from)) (arc_over c.args.self.now.mesh.now))

pub link_weight-requires-clause-end : goal.link_weight-requires-clause-end
link_weight-requires-clause-end c =
    let mesh = c.args.self.now.mesh.now in
    let there = rw c.in-None.is at c.past_links.ensures.link in
    let below : c.args.step.place < length (arcs_from mesh c.args.step.from) =
    omega (arith, there, length-map (links_from mesh (polygon_of c.args.step.from)) (arc_over mesh)) in
    ap (λ (arc : Arc). arc.to) (sym (arc-of-link mesh c.args.self.now.jumps.now c.args.self.now.off_mesh_links.now c.args.step c.requires.place there below)) ∙ c.requires.end

pub returns-in-None : goal.returns-in-None
returns-in-None c =
    let mesh = c.args.self.now.mesh.now in
    let there = rw c.in-None.is at c.past_links.ensures.link in
    let below : c.args.step.place < length (arcs_from mesh c.args.step.from) =
    omega (arith, there, length-map (links_from mesh (polygon_of c.args.step.from)) (arc_over mesh)) in
    c.link_weight.ensures
    ∙ ap (λ (arc : Arc). arc.weight) (sym (arc-of-link mesh c.args.self.now.jumps.now c.args.self.now.off_mesh_links.now c.args.step c.requires.place there below))

pub off_mesh_link_at-off_mesh_link-requires-clause-order : goal.off_mesh_link_at-off_mesh_link-requires-clause-order
off_mesh_link_at-off_mesh_link-requires-clause-order c = c.requires.sound.hopped.off_mesh_links_are.order

pub off_mesh_link_at-off_mesh_link-requires-clause-places : goal.off_mesh_link_at-off_mesh_link-requires-clause-places
off_mesh_link_at-off_mesh_link-requires-clause-places c = small_places _ _ _ c.requires.sound.hopped.off_mesh_links_are

pub off_mesh_link_at-off_mesh_link-requires-clause-there : goal.off_mesh_link_at-off_mesh_link-requires-clause-there
off_mesh_link_at-off_mesh_link-requires-clause-there c =
    let mesh = c.args.self.now.mesh.now in
    let off_mesh_links = c.args.self.now.off_mesh_links.now in
    let past = rw c.in-Some.is at c.past_links.ensures.past in
    subst (λ (p : PolyRef). c.in-Some.past < length (off_mesh_links_from off_mesh_links p)) (sym c.polygon_at.ensures)
    (past-there mesh off_mesh_links c.args.step c.in-Some.past past (step-there mesh c.args.self.now.jumps.now off_mesh_links c.args.step c.requires.place))

pub returns-in-Some : goal.returns-in-Some
returns-in-Some c =
    let past = rw c.in-Some.is at c.past_links.ensures.past in
    c.from.ensures
    ∙ off_mesh_link-costs c.args.self.now.mesh.now c.args.self.now.jumps.now c.args.self.now.off_mesh_links.now c.args.step c.in-Some.past c.off_mesh_link_at-off_mesh_link.result c.polygon_at.result
    c.requires.sound.hopped c.requires.place past c.polygon_at.ensures c.off_mesh_link_at-off_mesh_link.ensures
