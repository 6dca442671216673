use Rattle.std.proofs.Common.{◌*◌, ◌≤◌, List, All, Contains, length, arith, sym, ap, subst, map, refl, ◌∙◌}
use Rattle.std.specs.Prelude.{Option, IfSome, IfNone}
use Rattle.std.specs.Option.{option_copied}
use Rattle.std.proofs.lemmas.Nat.{mul-le}
use Rattle.graph_search.specs.declared.graph.Vertex.{Vertex}
use Rattle.graph_search.specs.declared.graph.Step.{Step}
use Rattle.graph_search.specs.declared.graph.Walk.{Walk}
use Rattle.graph_search.specs.Walks as graph
use Rattle.corridor_search.specs.MeshGraphs.{IsOver, vertex_of, vertices_of, arcs_from, link_of}
use Rattle.corridor_search.proofs.Vertices.{there-contains}
use Rattle.corridor_search.proofs.Searchable.{vertices-few}
use Rattle.corridor_search.proofs.Gaps.{searchable-by}
use Rattle.corridor_search.proofs.Extents.{extent-rules}
use Rattle.corridor_search.proofs.MeshWalks.{steps-over, corridor-cheapest, none-joined}
use Rattle.corridor_search.proofs.corridors.cheapest_in.Goals as goal

pub middle-goal-requires : goal.middle-goal-requires
middle-goal-requires c = (extent-rules c.args.mesh.now c.args.to c.extent_at.result c.requires.sound c.requires.to c.extent_at.ensures).box

pub cheapest_walk_in-requires-clause-searchable : goal.cheapest_walk_in-requires-clause-searchable
cheapest_walk_in-requires-clause-searchable c =
    searchable-by c.args.mesh.now c.middle-goal.result c.least_cost.result (option_copied c.args.landmarks) c.heights_of-heights.result
    (record {
      searched = record { sound = c.requires.sound; setting = c.requires.setting; in_field = c.middle-goal.ensures.in_field };
      cost = record { some = c.least_cost.ensures.some; each = c.least_cost.ensures.least };
      landmarks = c.requires.landmarks;
    })

pub cheapest_walk_in-requires-clause-there : goal.cheapest_walk_in-requires-clause-there
cheapest_walk_in-requires-clause-there c =
    subst (Contains (vertices_of c.args.mesh.now)) (sym c.vertex_at.ensures) (there-contains c.args.mesh.now c.args.from c.requires.from)

pub links_along-requires : goal.links_along-requires
links_along-requires c =
    let found = subst (λ (o : Option Walk). IfSome o (graph.IsCheapest (arcs_from c.args.mesh.now) c.vertex_at.result c.vertex_at-2.result)) c.in-Some.is c.in_ok-walk.ensures.found in
    subst (λ (steps : List Step). All (IsOver c.args.mesh.now) steps) (sym c.as_slice.ensures.value)
    (steps-over c.args.mesh.now c.in-Some.walk.steps.items c.vertex_at.result c.vertex_at-2.result found.walks)

pub returns-in_ok-links-in-Some-clause-found : goal.returns-in_ok-links-in-Some-clause-found
returns-in_ok-links-in-Some-clause-found c =
    let found = subst (λ (o : Option Walk). IfSome o (graph.IsCheapest (arcs_from c.args.mesh.now) c.vertex_at.result c.vertex_at-2.result)) c.in-Some.is c.in_ok-walk.ensures.found in
    let found' =
    subst (λ (v : Vertex). graph.IsCheapest (arcs_from c.args.mesh.now) (vertex_of c.args.from) v c.in-Some.walk) c.vertex_at-2.ensures
    (subst (λ (v : Vertex). graph.IsCheapest (arcs_from c.args.mesh.now) v c.vertex_at-2.result c.in-Some.walk) c.vertex_at.ensures found) in
    corridor-cheapest c.args.mesh.now c.args.from c.args.to c.in-Some.walk _ c.requires.sound found' refl
    (c.in_ok-links-in-Some.ensures ∙ ap (map (link_of c.args.mesh.now)) c.as_slice.ensures.value)

pub returns-in_ok-links-in-Some-clause-few : goal.returns-in_ok-links-in-Some-clause-few
returns-in_ok-links-in-Some-clause-few c =
    let few = subst (λ (o : Option Walk). IfSome o (λ (walk : Walk). walk.cost ≤ length (vertices_of c.args.mesh.now) * 2897000)) c.in-Some.is c.in_ok-walk.ensures.few in
    let most = mul-le (length (vertices_of c.args.mesh.now)) 2897000 8000000 2897000 (vertices-few c.args.mesh.now c.requires.sound) (omega arith) in
    omega (arith, few, most)

pub returns-in-None-clause-none : goal.returns-in-None-clause-none
returns-in-None-clause-none c =
    let none = subst (λ (o : Option Walk). IfNone o (graph.IsApart (arcs_from c.args.mesh.now) c.vertex_at.result c.vertex_at-2.result)) c.in-None.is c.in_ok-walk.ensures.none in
    none-joined c.args.mesh.now c.args.from c.args.to
    (subst (λ (v : Vertex). graph.IsApart (arcs_from c.args.mesh.now) (vertex_of c.args.from) v) c.vertex_at-2.ensures
    (subst (λ (v : Vertex). graph.IsApart (arcs_from c.args.mesh.now) v c.vertex_at-2.result) c.vertex_at.ensures none))
