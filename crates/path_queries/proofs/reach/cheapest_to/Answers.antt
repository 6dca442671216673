use Rattle.std.proofs.Common.{◌≡◌, ◌∙◌, ℕ, ◌+◌, ◌-◌, List, length, map, ap, sym, subst, arith}
use Rattle.std.specs.Prelude.{All, Contains, slice_get, slice_index_or, Some}
use Rattle.std.proofs.lemmas.Option.{slice_get-get_or, slice_get_within}
use Rattle.graph_search.specs.declared.exploring.ReachedVertex.{ReachedVertex}
use Rattle.graph_search.specs.declared.graph.Step.{Step}
use Rattle.graph_search.proofs.ReachedWalks.{tree-earlier}
use Rattle.mesh_types.specs.declared.links.PolyRef.{PolyRef}
use Rattle.mesh_types.specs.declared.mesh.Mesh.{Mesh}
use Rattle.corridor_search.specs.MeshGraphs.{IsOver, link_of}
use Rattle.path_queries.specs.declared.filters.Filter.{Filter}
use Rattle.graph_search.specs.declared.exploring.Limits.{Limits}
use Rattle.path_queries.specs.Reaches.{IsNearest}
use Rattle.path_queries.specs.Searches.{IsSearchedThrough}
use Rattle.path_queries.proofs.FloodLoops.{no_entry}
use Rattle.path_queries.proofs.ReachLaws.{apart-all, beyond-seen, nearest, over}
use Rattle.path_queries.proofs.reach.cheapest_to.Goals as goal

-- the last of a list that a search made
record IsLast (list : List ReachedVertex) : Type 0 where
  end : length list - 1 + 1 ≡ length list
  there : slice_get list (length list - 1) ≡ Some (slice_index_or list (length list - 1) no_entry)

last-of : (mesh : Mesh) (filter : Filter) (from : PolyRef) (goals : List PolyRef) (limits : Limits) (list : List ReachedVertex) (seen : ℕ)
    → IsSearchedThrough mesh filter from goals limits list seen → IsLast list
last-of mesh filter from goals limits list seen searched =
    let some = slice_get_within list 0 _ searched.explored.tree.begins in
    record { end = omega (arith, some); there = slice_get-get_or list (length list - 1) no_entry (omega (arith, some)) }

same-list : (mesh : Mesh) (filter : Filter) (from : PolyRef) (goals : List PolyRef) (limits : Limits) (list list' : List ReachedVertex) (seen : ℕ)
    → list' ≡ list → IsSearchedThrough mesh filter from goals limits list seen → IsSearchedThrough mesh filter from goals limits list' seen
same-list mesh filter from goals limits list list' seen same searched =
    subst (λ (xs : List ReachedVertex). IsSearchedThrough mesh filter from goals limits xs seen) (sym same) searched

pub reached_walk-requires-clause-earlier : goal.reached_walk-requires-clause-earlier
reached_walk-requires-clause-earlier c =
    tree-earlier _ _ c.as_slice-reached.result.now (same-list c.args.mesh.now c.args.filter.now c.args.sought.from c.args.sought.goals.now c.args.sought.limits _ c.as_slice-reached.result.now _ c.as_slice-reached.ensures.value c.in_ok-found.ensures).explored.tree

pub links_along-requires : goal.links_along-requires
links_along-requires c =
    let searched = same-list c.args.mesh.now c.args.filter.now c.args.sought.from c.args.sought.goals.now c.args.sought.limits _ c.as_slice-reached.result.now _ c.as_slice-reached.ensures.value c.in_ok-found.ensures in
    let last = last-of _ _ _ _ _ _ _ searched in
    let held = subst (Contains c.args.sought.goals.now) c.polygon_at-at.ensures c.if-is_goal.ensures in
    subst (λ (steps : List Step). All (IsOver c.args.mesh.now) steps) (sym c.as_slice.ensures.value)
    (over c.args.mesh.now c.args.filter.now c.args.sought.from c.args.sought.goals.now c.args.sought.limits _ _ c.requires.sound c.requires.setting c.requires.from searched
    _ _ last.end last.there held (c.requires.lead_on _ held) c.in_ok-walk.walk (c.in_ok-walk.ensures.walk _ _ searched.explored.tree))

pub returns-then-is_goal : goal.returns-then-is_goal
returns-then-is_goal c =
    let searched = same-list c.args.mesh.now c.args.filter.now c.args.sought.from c.args.sought.goals.now c.args.sought.limits _ c.as_slice-reached.result.now _ c.as_slice-reached.ensures.value c.in_ok-found.ensures in
    let last = last-of _ _ _ _ _ _ _ searched in
    let held = subst (Contains c.args.sought.goals.now) c.polygon_at-at.ensures c.if-is_goal.ensures in
    subst (λ (at : PolyRef). IsNearest c.args.mesh.now c.args.filter.now c.args.sought.from c.args.sought.goals.now c.args.sought.limits at (record { cost = c.in_ok-walk.walk.cost; links = c.in_ok-links.links }))
    (sym c.polygon_at-at.ensures)
    (nearest c.args.mesh.now c.args.filter.now c.args.sought.from c.args.sought.goals.now c.args.sought.limits _ _ c.requires.sound c.requires.setting c.requires.from searched
    _ _ last.end last.there held (c.requires.lead_on _ held) c.in_ok-walk.walk (c.in_ok-walk.ensures.walk _ _ searched.explored.tree)
    c.in_ok-links.links (c.in_ok-links.ensures ∙ ap (map (link_of c.args.mesh.now)) c.as_slice.ensures.value) c.in_ok-walk.ensures.short)

pub returns-then-is_all : goal.returns-then-is_all
returns-then-is_all c =
    let searched = same-list c.args.mesh.now c.args.filter.now c.args.sought.from c.args.sought.goals.now c.args.sought.limits _ c.as_slice-reached.result.now _ c.as_slice-reached.ensures.value c.in_ok-found.ensures in
    let last = last-of _ _ _ _ _ _ _ searched in
    apart-all c.args.mesh.now c.args.filter.now c.args.sought.from c.args.sought.goals.now c.args.sought.limits _ _ c.requires.sound c.requires.setting c.requires.from searched
    _ _ last.end last.there (λ held. c.if-is_goal.ensures (subst (Contains c.args.sought.goals.now) (sym c.polygon_at-at.ensures) held)) c.if-is_all.ensures

pub returns : goal.returns
returns c =
    let searched = same-list c.args.mesh.now c.args.filter.now c.args.sought.from c.args.sought.goals.now c.args.sought.limits _ c.as_slice-reached.result.now _ c.as_slice-reached.ensures.value c.in_ok-found.ensures in
    let last = last-of _ _ _ _ _ _ _ searched in
    beyond-seen c.args.mesh.now c.args.filter.now c.args.sought.from c.args.sought.goals.now c.args.sought.limits _ _ c.requires.sound c.requires.setting c.requires.from searched
    _ _ last.end last.there (λ held. c.if-is_goal.ensures (subst (Contains c.args.sought.goals.now) (sym c.polygon_at-at.ensures) held)) c.if-is_all.ensures
