use Rattle.std.proofs.Common.{◌≡◌, ℕ, ◌+◌, ◌-◌, ◌<◌, ◌≤◌, true, List, length, refl, sym, subst, arith, rules}
use Rattle.std.specs.Prelude.{Contains, slice_get, slice_index_or, Some}
use Rattle.std.proofs.lemmas.List.Elements.{Contains-get_or}
use Rattle.std.proofs.lemmas.Option.{slice_get-get_or, slice_get_within}
use Rattle.mesh_types.specs.declared.links.PolyRef.{PolyRef}
use Rattle.mesh_types.specs.declared.mesh.Mesh.{Mesh}
use Rattle.graph_search.specs.declared.exploring.Limits.{Limits}
use Rattle.graph_search.specs.declared.exploring.ReachedVertex.{ReachedVertex}
use Rattle.path_queries.specs.declared.filters.Filter.{Filter}
use Rattle.path_queries.specs.FilteredGraphs.{leads_on}
use Rattle.path_queries.specs.Searches.{IsSearchedThrough}
use Rattle.path_queries.proofs.FilteredLinks.{start-on}
use Rattle.path_queries.proofs.FloodLoops.{no_entry}
use Rattle.path_queries.proofs.PartialLaws.{goal-end, made-list, partial-way, whole-way}
use Rattle.path_queries.proofs.ReachedWays.{first-is}
use Rattle.path_queries.proofs.Reaching.{reached-there}
use Rattle.path_queries.proofs.WayParts.{located-there}
use Rattle.path_queries.proofs.partial.plan_toward.Goals as goal

-- the last of a list that a search made
record IsLast (list : List ReachedVertex) : Type 0 where
  some : 0 < length list
  end : length list - 1 + 1 ≡ length list
  there : slice_get list (length list - 1) ≡ Some (slice_index_or list (length list - 1) no_entry)

last-of : (mesh : Mesh) (filter : Filter) (from : PolyRef) (goals : List PolyRef) (limits : Limits) (list : List ReachedVertex) (seen : ℕ)
    → IsSearchedThrough mesh filter from goals limits list seen → IsLast list
last-of mesh filter from goals limits list seen searched =
    let some = slice_get_within list 0 _ searched.explored.tree.begins in
    record { some = some; end = omega (arith, some); there = slice_get-get_or list (length list - 1) no_entry (omega (arith, some)) }

same-list : (mesh : Mesh) (filter : Filter) (from : PolyRef) (goals : List PolyRef) (limits : Limits) (list list' : List ReachedVertex) (seen : ℕ)
    → list' ≡ list → IsSearchedThrough mesh filter from goals limits list seen → IsSearchedThrough mesh filter from goals limits list' seen
same-list mesh filter from goals limits list list' seen same searched =
    subst (λ (xs : List ReachedVertex). IsSearchedThrough mesh filter from goals limits xs seen) (sym same) searched

pub search_through-requires-clause-goals : goal.search_through-requires-clause-goals
search_through-requires-clause-goals c k d there =
    let q = c.args.query.now in
    located-there c.args.mesh.now q.goal q.goal_y _ (c.requires.goals.each _ (Contains-get_or c.args.goals.now k d there)).located

pub way_to-requires-clause-end : goal.way_to-requires-clause-end
way_to-requires-clause-end c =
    let mesh = c.args.mesh.now in
    let q = c.args.query.now in
    let list = c.as_slice-reached.result.now in
    let searched = same-list mesh q.filter c.args.start.first c.args.goals.now _ _ list _ c.as_slice-reached.ensures.value c.in_ok-found.ensures in
    let last = last-of _ _ _ _ _ _ _ searched in
    goal-end mesh q c.args.start.first c.args.goals.now list _ c.requires.sound c.requires.setting c.requires.start c.requires.goals searched
    _ _ last.end last.there (subst (Contains c.args.goals.now) c.polygon_at-at.ensures c.if-is_goal.ensures) _ c.polygon_at-at.ensures refl

pub returns-then-is_goal-clause-right : goal.returns-then-is_goal-clause-right
returns-then-is_goal-clause-right c =
    let mesh = c.args.mesh.now in
    let q = c.args.query.now in
    let list = c.as_slice-reached.result.now in
    let searched = same-list mesh q.filter c.args.start.first c.args.goals.now _ _ list _ c.as_slice-reached.ensures.value c.in_ok-found.ensures in
    let last = last-of _ _ _ _ _ _ _ searched in
    whole-way mesh q c.args.start.first c.args.goals.now list _ c.requires.sound c.requires.setting c.requires.start c.requires.goals searched
    _ _ last.end last.there (subst (Contains c.args.goals.now) c.polygon_at-at.ensures c.if-is_goal.ensures) _ c.polygon_at-at.ensures refl
    c.in_ok-way.way c.in_ok-way.ensures c.least_floor.ensures

pub nearest_spot-spot-requires-clause-there : goal.nearest_spot-spot-requires-clause-there
nearest_spot-spot-requires-clause-there c k d below =
    let mesh = c.args.mesh.now in
    let q = c.args.query.now in
    let list = c.as_slice-reached.result.now in
    let searched = same-list mesh q.filter c.args.start.first c.args.goals.now _ _ list _ c.as_slice-reached.ensures.value c.in_ok-found.ensures in
    reached-there mesh q.filter c.args.start.first c.args.goals.now _ list _ c.requires.sound (located-there mesh q.from q.from_y c.args.start.first c.requires.start) searched
    k _ (slice_get-get_or list k d below)

pub nearest_spot-spot-requires-clause-begins : goal.nearest_spot-spot-requires-clause-begins
nearest_spot-spot-requires-clause-begins c =
    let mesh = c.args.mesh.now in
    let q = c.args.query.now in
    let list = c.as_slice-reached.result.now in
    let searched = same-list mesh q.filter c.args.start.first c.args.goals.now _ _ list _ c.as_slice-reached.ensures.value c.in_ok-found.ensures in
    let last = last-of _ _ _ _ _ _ _ searched in
    let r = made-list mesh q c.args.start.first c.args.goals.now list _ c.requires.sound c.requires.setting c.requires.start c.requires.goals searched in
    let there = slice_get-get_or list 0 no_entry last.some in
    record {
      entry = slice_index_or list 0 no_entry;
      there = there;
      leads = subst (λ (v : PolyRef). leads_on mesh q.filter.areas c.args.start.first v ≡ true)
          (sym (first-is mesh q list c.requires.sound c.requires.setting r _ there)) (start-on mesh q.filter.areas c.args.start.first);
    }

pub returns-clause-right : goal.returns-clause-right
returns-clause-right c =
    let mesh = c.args.mesh.now in
    let q = c.args.query.now in
    let list = c.as_slice-reached.result.now in
    let searched = same-list mesh q.filter c.args.start.first c.args.goals.now _ _ list _ c.as_slice-reached.ensures.value c.in_ok-found.ensures in
    let last = last-of _ _ _ _ _ _ _ searched in
    let top : c.in_ok-found.found.seen ≤ 18446744073709551615 = search rules in
    partial-way mesh q c.args.start.first c.args.goals.now list _ c.requires.sound c.requires.setting c.requires.start c.requires.goals searched
    _ _ last.end last.there (λ held. c.if-is_goal.ensures (subst (Contains c.args.goals.now) (sym c.polygon_at-at.ensures) held)) top
    c.args.start.rise c.requires.partial c.nearest_spot-spot.result c.nearest_spot-spot.ensures c.in_ok-way-2.way c.in_ok-way-2.ensures
