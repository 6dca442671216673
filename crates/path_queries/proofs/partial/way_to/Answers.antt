use Rattle.std.proofs.Common.{◌≡◌, ◌∙◌, ◌<◌, List, length, map, ap, sym, subst}
use Rattle.std.specs.Prelude.{All}
use Rattle.std.proofs.lemmas.Option.{slice_get-get_or, slice_get_within}
use Rattle.mesh_types.specs.declared.links.Link.{Link}
use Rattle.mesh_types.specs.declared.links.PolyRef.{PolyRef}
use Rattle.mesh_types.specs.Chains.{IsChain}
use Rattle.mesh_types.specs.Located.{IsLocated}
use Rattle.mesh_types.specs.Right.{portals_of}
use Rattle.mesh_types.specs.Taut.{IsTaut}
use Rattle.funnel_path.specs.Coordinates.{HasChainCoordinates}
use Rattle.graph_search.specs.declared.exploring.ReachedVertex.{ReachedVertex}
use Rattle.graph_search.specs.declared.graph.Step.{Step}
use Rattle.graph_search.proofs.ReachedLists.{get-one}
use Rattle.graph_search.proofs.ReachedWalks.{tree-earlier}
use Rattle.corridor_search.specs.MeshGraphs.{IsOver, link_of}
use Rattle.path_queries.specs.Filters.{IsCheapestAllowed}
use Rattle.path_queries.proofs.FloodLoops.{no_entry}
use Rattle.path_queries.proofs.ReachedWays.{end-pulled, first-is, led, over, some-reached}
use Rattle.path_queries.proofs.partial.way_to.Goals as goal

pub reached_walk-requires-clause-there : goal.reached_walk-requires-clause-there
reached_walk-requires-clause-there c = slice_get_within c.args.reached.now c.args.place c.requires.end.entry c.requires.end.there

pub reached_walk-requires-clause-earlier : goal.reached_walk-requires-clause-earlier
reached_walk-requires-clause-earlier c = tree-earlier _ _ c.args.reached.now c.requires.reached.searched.explored.tree

pub links_along-requires : goal.links_along-requires
links_along-requires c =
    let r = c.requires.reached in
    let walked = c.in_ok-walk.ensures.walk _ _ r.searched.explored.tree in
    subst (λ (steps : List Step). All (IsOver c.args.mesh.now) steps) (sym c.as_slice.ensures.value)
    (over c.args.mesh.now c.args.query.now c.args.reached.now c.requires.sound c.requires.setting r c.args.place c.in_ok-walk.walk walked)

pub turns-requires-clause-chain : goal.turns-requires-clause-chain
turns-requires-clause-chain c =
    let mesh = c.args.mesh.now in
    let q = c.args.query.now in
    let r = c.requires.reached in
    let e = c.requires.end in
    let links = c.in_ok-links.links in
    let walked = c.in_ok-walk.ensures.walk _ _ r.searched.explored.tree in
    let are : links ≡ map (link_of mesh) c.in_ok-walk.walk.steps.items = c.in_ok-links.ensures ∙ ap (map (link_of mesh)) c.as_slice.ensures.value in
    let is = led mesh q c.args.reached.now c.requires.sound c.requires.setting r c.args.place c.in_ok-walk.walk walked links c.args.end are c.in_ok-walk.ensures.short e in
    subst (λ (ls : List Link). IsChain q.from (portals_of ls) c.args.end.point) (sym c.as_slice-2.ensures)
    (end-pulled mesh q c.args.reached.now c.requires.sound c.requires.setting r c.args.end links c.requires.query e.held is.cheapest.allowed.walks).chain

pub turns-requires-clause-few : goal.turns-requires-clause-few
turns-requires-clause-few c =
    let mesh = c.args.mesh.now in
    let q = c.args.query.now in
    let r = c.requires.reached in
    let links = c.in_ok-links.links in
    let walked = c.in_ok-walk.ensures.walk _ _ r.searched.explored.tree in
    let are : links ≡ map (link_of mesh) c.in_ok-walk.walk.steps.items = c.in_ok-links.ensures ∙ ap (map (link_of mesh)) c.as_slice.ensures.value in
    let is = led mesh q c.args.reached.now c.requires.sound c.requires.setting r c.args.place c.in_ok-walk.walk walked links c.args.end are c.in_ok-walk.ensures.short c.requires.end in
    subst (λ (ls : List Link). length (portals_of ls) < 4294967295) (sym c.as_slice-2.ensures) is.few

pub turns-requires-clause-coordinates : goal.turns-requires-clause-coordinates
turns-requires-clause-coordinates c =
    let mesh = c.args.mesh.now in
    let q = c.args.query.now in
    let r = c.requires.reached in
    let e = c.requires.end in
    let links = c.in_ok-links.links in
    let walked = c.in_ok-walk.ensures.walk _ _ r.searched.explored.tree in
    let are : links ≡ map (link_of mesh) c.in_ok-walk.walk.steps.items = c.in_ok-links.ensures ∙ ap (map (link_of mesh)) c.as_slice.ensures.value in
    let is = led mesh q c.args.reached.now c.requires.sound c.requires.setting r c.args.place c.in_ok-walk.walk walked links c.args.end are c.in_ok-walk.ensures.short e in
    subst (λ (ls : List Link). HasChainCoordinates q.from (portals_of ls) c.args.end.point) (sym c.as_slice-2.ensures)
    (end-pulled mesh q c.args.reached.now c.requires.sound c.requires.setting r c.args.end links c.requires.query e.held is.cheapest.allowed.walks).coordinates

pub returns : goal.returns
returns c =
    let mesh = c.args.mesh.now in
    let q = c.args.query.now in
    let list = c.args.reached.now in
    let r = c.requires.reached in
    let links = c.in_ok-links.links in
    let walked = c.in_ok-walk.ensures.walk _ _ r.searched.explored.tree in
    let are : links ≡ map (link_of mesh) c.in_ok-walk.walk.steps.items = c.in_ok-links.ensures ∙ ap (map (link_of mesh)) c.as_slice.ensures.value in
    let is = led mesh q list c.requires.sound c.requires.setting r c.args.place c.in_ok-walk.walk walked links c.args.end are c.in_ok-walk.ensures.short c.requires.end in
    let some = some-reached mesh q list c.requires.sound c.requires.setting r in
    let first : c.polygon_at-first.result ≡ r.first =
    c.polygon_at-first.ensures ∙ first-is mesh q list c.requires.sound c.requires.setting r _ (slice_get-get_or list 0 no_entry some) in
    record {
      start = subst (IsLocated mesh q.from q.from_y) (sym first) r.start;
      cheapest = subst (λ (v : PolyRef). IsCheapestAllowed mesh q.filter v c.args.end.polygon (record { cost = c.in_ok-walk.walk.cost; links = links })) (sym first) is.cheapest;
      taut = subst (λ (ls : List Link). IsTaut q.from (portals_of ls) c.args.end.point c.in_ok-turns.turns) c.as_slice-2.ensures c.in_ok-turns.ensures;
      cost_is = λ entry there. walked.cost ∙ ap (λ (x : ReachedVertex). x.cost) (get-one list walked.entry entry c.args.place walked.there there);
      within_cost = is.within_cost;
      within_count = is.within_count;
      low = is.low;
    }
