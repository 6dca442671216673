use Rattle.std.proofs.Common.{◌<◌, length, ap, subst, sym, ◌∙◌}
use Rattle.mesh_types.specs.declared.links.PolyRef.{PolyRef}
use Rattle.off_links.specs.HopGraphs.{off_mesh_links_from, link_step}
use Rattle.off_links.proofs.Arcs.{past-there, step-of-link}
use Rattle.off_links.proofs.Weights.{off_mesh_link-found, small_places}
use Rattle.off_links.proofs.hop_graph.step_at.Goals as goal

pub link_at-requires : goal.link_at-requires
link_at-requires c = rw c.in-None.is at c.past_links.ensures.link

pub returns-in-None : goal.returns-in-None
returns-in-None c =
    let there = rw c.in-None.is at c.past_links.ensures.link in
    ap link_step c.link_at.ensures ∙ sym (step-of-link c.args.graph.mesh.now c.args.graph.off_mesh_links.now c.args.step there)

pub off_mesh_link_at-off_mesh_link-requires-clause-order : goal.off_mesh_link_at-off_mesh_link-requires-clause-order
off_mesh_link_at-off_mesh_link-requires-clause-order c = c.requires.sound.off_mesh_links_are.order

pub off_mesh_link_at-off_mesh_link-requires-clause-places : goal.off_mesh_link_at-off_mesh_link-requires-clause-places
off_mesh_link_at-off_mesh_link-requires-clause-places c = small_places _ _ _ c.requires.sound.off_mesh_links_are

pub off_mesh_link_at-off_mesh_link-requires-clause-there : goal.off_mesh_link_at-off_mesh_link-requires-clause-there
off_mesh_link_at-off_mesh_link-requires-clause-there c =
    let off_mesh_links = c.args.graph.off_mesh_links.now in
    let past = rw c.in-Some.is at c.past_links.ensures.past in
    subst (λ (p : PolyRef). c.in-Some.past < length (off_mesh_links_from off_mesh_links p)) (sym c.polygon_at.ensures)
    (past-there c.args.graph.mesh.now off_mesh_links c.args.step c.in-Some.past past c.requires.there)

pub returns-in-Some : goal.returns-in-Some
returns-in-Some c =
    let past = rw c.in-Some.is at c.past_links.ensures.past in
    off_mesh_link-found c.args.graph.mesh.now c.args.graph.off_mesh_links.now c.args.step c.in-Some.past c.off_mesh_link_at-off_mesh_link.result c.polygon_at.result c.requires.there past
    c.polygon_at.ensures c.off_mesh_link_at-off_mesh_link.ensures
