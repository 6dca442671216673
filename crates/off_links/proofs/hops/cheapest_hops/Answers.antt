use Rattle.std.proofs.Common.{◌≡◌, Bool, List, All, Contains, length, ap, map, refl, subst, sym, ◌∙◌, ◌<◌}
use Rattle.std.specs.Prelude.{Option, IfSome, IfNone}
use Rattle.nav_ground.specs.Limits.{IsSetting}
use Rattle.mesh_types.specs.declared.answers.Jump.{Jump}
use Rattle.mesh_types.specs.declared.mesh.Mesh.{Mesh}
use Rattle.mesh_types.specs.Soundness.{IsSound}
use Rattle.graph_search.specs.declared.graph.Vertex.{Vertex}
use Rattle.graph_search.specs.declared.graph.Step.{Step}
use Rattle.graph_search.specs.declared.graph.Walk.{Walk}
use Rattle.graph_search.specs.Walks as graph
use Rattle.corridor_search.specs.MeshGraphs.{vertex_of, vertices_of}
use Rattle.corridor_search.proofs.Vertices.{there-contains}
use Rattle.off_links.specs.declared.off_mesh_links.OffMeshLink.{OffMeshLink}
use Rattle.off_links.specs.OffMeshLinks.{AreOffMeshLinks}
use Rattle.off_links.specs.HopGraphs.{IsHopStep, IsHopped, hop_arcs, hop_step}
use Rattle.off_links.specs.Slots.{HaveSlots}
use Rattle.off_links.proofs.HopWalks.{found_hops, none_hops, taken_there}
use Rattle.off_links.proofs.Searched.{hops-searchable}
use Rattle.off_links.proofs.hops.cheapest_hops.Goals as goal

-- the off-mesh links found, as the graph has them
hopped : (mesh : Mesh) (jumps : List Jump) (off_mesh_links off_mesh_links' : List OffMeshLink) → IsSound mesh → IsSetting mesh.setting → off_mesh_links' ≡ off_mesh_links → AreOffMeshLinks mesh jumps off_mesh_links
    → IsHopped mesh jumps off_mesh_links'
hopped mesh jumps off_mesh_links off_mesh_links' sound setting same are = record { sound = sound; setting = setting; off_mesh_links_are = subst (AreOffMeshLinks mesh jumps) (sym same) are }

pub cheapest_walk-requires-clause-sound : goal.cheapest_walk-requires-clause-sound
cheapest_walk-requires-clause-sound c = record {
  hopped = hopped c.args.mesh.now c.args.jumps.now _ c.as_slice-2.result.now c.requires.sound c.requires.setting c.as_slice-2.ensures.value c.in_ok-off_mesh_links.ensures;
  slots_are =
      subst (λ (slots : List Bool). HaveSlots slots c.as_slice-2.result.now) (sym c.as_slice-3.ensures.value)
      (subst (HaveSlots c.in_ok-slots.slots.items) (c.as_slice.ensures.value ∙ sym c.as_slice-2.ensures.value) c.in_ok-slots.ensures);
}

pub cheapest_walk-requires-clause-searchable : goal.cheapest_walk-requires-clause-searchable
cheapest_walk-requires-clause-searchable c =
    hops-searchable c.args.mesh.now c.args.jumps.now c.as_slice-2.result.now (hopped c.args.mesh.now c.args.jumps.now _ c.as_slice-2.result.now c.requires.sound c.requires.setting c.as_slice-2.ensures.value c.in_ok-off_mesh_links.ensures)

pub cheapest_walk-requires-clause-there : goal.cheapest_walk-requires-clause-there
cheapest_walk-requires-clause-there c =
    subst (Contains (vertices_of c.args.mesh.now)) (sym c.vertex_at.ensures) (there-contains c.args.mesh.now c.args.from c.requires.from)

pub steps_along-requires-clause-sound : goal.steps_along-requires-clause-sound
steps_along-requires-clause-sound c =
    hopped c.args.mesh.now c.args.jumps.now _ c.as_slice-2.result.now c.requires.sound c.requires.setting c.as_slice-2.ensures.value c.in_ok-off_mesh_links.ensures

pub steps_along-requires-clause-there : goal.steps_along-requires-clause-there
steps_along-requires-clause-there c =
    let mesh = c.args.mesh.now in
    let jumps = c.args.jumps.now in
    let off_mesh_links = c.as_slice-2.result.now in
    let rules = hopped mesh jumps _ off_mesh_links c.requires.sound c.requires.setting c.as_slice-2.ensures.value c.in_ok-off_mesh_links.ensures in
    let found = subst (λ (o : Option Walk). IfSome o (graph.IsCheapest (hop_arcs mesh jumps off_mesh_links) c.vertex_at.result c.vertex_at-2.result)) c.in-Some.is c.in_ok-walk.ensures.found in
    subst (λ (steps : List Step). All (IsHopStep mesh off_mesh_links) steps) (sym c.as_slice-in-Some.ensures.value)
    (taken_there mesh jumps off_mesh_links rules c.in-Some.walk.steps.items c.vertex_at.result c.vertex_at-2.result found.walks)

pub returns-in-Some-clause-found : goal.returns-in-Some-clause-found
returns-in-Some-clause-found c =
    let mesh = c.args.mesh.now in
    let jumps = c.args.jumps.now in
    let off_mesh_links = c.as_slice-2.result.now in
    let rules = hopped mesh jumps _ off_mesh_links c.requires.sound c.requires.setting c.as_slice-2.ensures.value c.in_ok-off_mesh_links.ensures in
    let found = subst (λ (o : Option Walk). IfSome o (graph.IsCheapest (hop_arcs mesh jumps off_mesh_links) c.vertex_at.result c.vertex_at-2.result)) c.in-Some.is c.in_ok-walk.ensures.found in
    let short = subst (λ (o : Option Walk). IfSome o (λ (walk : Walk). length walk.steps.items < length (vertices_of mesh))) c.in-Some.is c.in_ok-walk.ensures.short in
    let found' =
    subst (λ (v : Vertex). graph.IsCheapest (hop_arcs mesh jumps off_mesh_links) (vertex_of c.args.from) v c.in-Some.walk) c.vertex_at-2.ensures
    (subst (λ (v : Vertex). graph.IsCheapest (hop_arcs mesh jumps off_mesh_links) v c.vertex_at-2.result c.in-Some.walk) c.vertex_at.ensures found) in
    found_hops mesh jumps off_mesh_links rules c.args.from c.args.to c.in-Some.walk _ found' short refl
    (c.in_ok-steps-in-Some.ensures ∙ ap (map (hop_step mesh off_mesh_links)) c.as_slice-in-Some.ensures.value)

pub returns-clause-none : goal.returns-clause-none
returns-clause-none c =
    let mesh = c.args.mesh.now in
    let jumps = c.args.jumps.now in
    let off_mesh_links = c.as_slice-2.result.now in
    let rules = hopped mesh jumps _ off_mesh_links c.requires.sound c.requires.setting c.as_slice-2.ensures.value c.in_ok-off_mesh_links.ensures in
    let none = subst (λ (o : Option Walk). IfNone o (graph.IsApart (hop_arcs mesh jumps off_mesh_links) c.vertex_at.result c.vertex_at-2.result)) c.in-None.is c.in_ok-walk.ensures.none in
    none_hops mesh jumps off_mesh_links rules c.args.from c.args.to
    (subst (λ (v : Vertex). graph.IsApart (hop_arcs mesh jumps off_mesh_links) (vertex_of c.args.from) v) c.vertex_at-2.ensures
    (subst (λ (v : Vertex). graph.IsApart (hop_arcs mesh jumps off_mesh_links) v c.vertex_at-2.result) c.vertex_at.ensures none))
