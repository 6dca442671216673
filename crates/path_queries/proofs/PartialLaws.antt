-- What a plan answers where a partial way is asked for.
use Rattle.std.proofs.Common.{◌≡◌, ℕ, ◌+◌, ◌<◌, ◌≤◌, ◌⊎◌, inl, inr, true, List, [], ◌∷◌, length, refl, sym, ap, subst, ◌∙◌, arith}
use Rattle.std.specs.Prelude.{Contains, slice_get, Some}
use Rattle.std.proofs.lemmas.Bool.{cases_lt}
use Rattle.std.proofs.lemmas.Option.{slice_get_within}
use Rattle.nav_ground.specs.Limits.{IsSetting}
use Rattle.nav_base.specs.declared.point.Point.{Point}
use Rattle.mesh_types.specs.declared.answers.PathFound.{PathFound}
use Rattle.mesh_types.specs.declared.links.Link.{Link}
use Rattle.mesh_types.specs.declared.links.PolyRef.{PolyRef}
use Rattle.mesh_types.specs.declared.mesh.Mesh.{Mesh}
use Rattle.mesh_types.specs.declared.polygon.Polygon.{Polygon}
use Rattle.mesh_types.specs.Corridors.{cost_of}
use Rattle.mesh_types.specs.Located.{IsLocated}
use Rattle.mesh_types.specs.Rays.{IsHeldAt}
use Rattle.mesh_types.specs.Right.{portals_of}
use Rattle.mesh_types.specs.Soundness.{IsSound}
use Rattle.mesh_types.specs.Taut.{IsTaut}
use Rattle.mesh_types.specs.WholeMesh.{poly_at}
use Rattle.mesh_types.proofs.RightLaws.{one_located}
use Rattle.graph_search.specs.declared.exploring.ReachedVertex.{ReachedVertex}
use Rattle.graph_search.proofs.Members.{contains_none}
use Rattle.graph_search.proofs.ReachedLists.{get-one}
use Rattle.corridor_search.specs.MeshGraphs.{IsThere, polygon_of, vertex_of}
use Rattle.path_queries.specs.declared.plans.PathQuery.{PathQuery}
use Rattle.path_queries.specs.declared.plans.WayEnd.{WayEnd}
use Rattle.path_queries.specs.declared.spots.Spot.{Spot}
use Rattle.path_queries.specs.Filters.{AllowedTo, priced}
use Rattle.path_queries.specs.FilteredGraphs.{leads_on}
use Rattle.path_queries.specs.PartialWays.{IsAllSeen, IsHeading, IsNoWorse, IsOpenGoal, IsPartialWay, IsSpot, nearness_of, rest_of}
use Rattle.path_queries.specs.Plans.{IsWay}
use Rattle.path_queries.specs.Reached.{AreOpenGoals, IsEndOf, IsReachedList, IsWayTo, limits_of}
use Rattle.path_queries.specs.Reaches.{ArePlanLimits, IsDeep}
use Rattle.path_queries.specs.Searches.{IsSearchedThrough, is_kept}
use Rattle.path_queries.specs.Spots.{IsNearestSpot}
use Rattle.path_queries.proofs.AllowedWalks.{end-on}
use Rattle.path_queries.proofs.FilteredLinks.{start-on}
use Rattle.path_queries.proofs.ReachLaws.{apart-all, beyond-seen, has-one, only-one}
use Rattle.path_queries.proofs.Reaching.{allowed-steps, reached-least}
use Rattle.path_queries.proofs.WayParts.{located-there}

-- the goals of one goal, and of none
pub one-open : (mesh : Mesh) (query : PathQuery) (first goal : PolyRef) → IsOpenGoal mesh query first goal → AreOpenGoals mesh query first (goal ∷ [])
one-open mesh query first goal is = record {
  one = inr (goal, refl);
  each = λ other held. subst (IsOpenGoal mesh query first) (only-one goal other held) is;
  all = λ other is'.
      subst (Contains (goal ∷ [])) (one_located mesh query.goal query.goal_y goal other is.located is'.located) (has-one goal);
}

pub none-open : (mesh : Mesh) (query : PathQuery) (first : PolyRef) → ((goal : PolyRef) → IsOpenGoal mesh query first goal → ⊥)
    → AreOpenGoals mesh query first []
none-open mesh query first none = record {
  one = inl refl;
  each = λ other held. absurd (contains_none other held);
  all = λ other is. absurd (none other is);
}

-- better than a walk of no less cost
pub no-worse-cost : (near cost near' cost' more : ℕ) → IsNoWorse near cost near' cost' → cost' ≤ more → IsNoWorse near cost near' more
no-worse-cost near cost near' cost' more (inl less) most = inl less
no-worse-cost near cost near' cost' more (inr same) most = inr (same.0, omega (arith, same.1, most))

module _ (mesh : Mesh) (query : PathQuery) (first : PolyRef) (goals : List PolyRef) (list : List ReachedVertex) (seen : ℕ)
    (sound : IsSound mesh) (setting : IsSetting mesh.setting) (start : IsLocated mesh query.from query.from_y first)
    (open_goals : AreOpenGoals mesh query first goals)
    (searched : IsSearchedThrough mesh query.filter first goals (limits_of query) list seen) where
  abbrev there : IsThere mesh first
  there = located-there mesh query.from query.from_y first start

  abbrev pub made-list : IsReachedList mesh query list
  made-list = record { first = first; start = start; goals = goals; seen = seen; searched = searched }

  -- an allowed walk ends where walks may lead on
  leads-there : (at : PolyRef) (links : List Link) → AllowedTo mesh query.filter.areas first links at → leads_on mesh query.filter.areas first at ≡ true
  leads-there at links allowed = end-on mesh query.filter.areas first first links at allowed.walks allowed.enters (start-on mesh query.filter.areas first)

  -- ---- the goal was reached

  module _ (last : ℕ) (entry : ReachedVertex) (end : last + 1 ≡ length list) (is : slice_get list last ≡ Some entry) where
    module _ (held : Contains goals (polygon_of entry.vertex)) (rest : WayEnd) (at : rest.polygon ≡ polygon_of entry.vertex) (goal : rest.point ≡ query.goal) where
      reached-goal : IsOpenGoal mesh query first rest.polygon
      reached-goal = subst (IsOpenGoal mesh query first) (sym at) (open_goals.each (polygon_of entry.vertex) held)

      pub goal-end : IsEndOf mesh query list last rest
      goal-end = record {
        entry = entry;
        there = is;
        at = at;
        first = first;
        start = start;
        leads = (open_goals.each (polygon_of entry.vertex) held).leads;
        held = subst (λ (p : Point). IsHeldAt mesh p rest.polygon) (sym goal)
            (let holding = reached-goal.located.holding in record { polygon = holding.polygon; there = holding.there; holds = holding.holds });
      }

      pub whole-way : (way : PathFound) → IsWayTo mesh query list last rest way
          → ((polygon : Polygon) → poly_at mesh rest.polygon ≡ Some polygon → rest.y ≡ polygon.low) → IsWay mesh query way rest
      whole-way way led floor =
          let holding = reached-goal.located.holding in
          record {
            start = led.start;
            goal = reached-goal.located;
            at_goal = goal;
            last = holding.polygon;
            there = holding.there;
            floor = floor holding.polygon holding.there;
            cheapest = led.cheapest;
            taut = subst (λ (p : Point). IsTaut query.from (portals_of way.links) p way.turns) goal led.taut;
            within_cost = led.within_cost;
            within_count = led.within_count;
          }

    -- ---- it was not

    module _ (other : Contains goals (polygon_of entry.vertex) → ⊥) (top : seen ≤ 18446744073709551615) where
      either : IsAllSeen seen ⊎ (seen < 18446744073709551615)
      either = elim (cases_lt seen 18446744073709551615) [ inl less ↦ inr less | inr least ↦ inl (omega (arith, least, top)) ]

      beyond-goal : (goal : PolyRef) (links : List Link) → IsLocated mesh query.goal query.goal_y goal → AllowedTo mesh query.filter.areas first links goal
          → (seen < 18446744073709551615) × (seen ≤ cost_of (priced mesh query.filter) links)
      beyond-goal goal links located allowed =
          let held = open_goals.all goal (record { located = located; leads = leads-there goal links allowed }) in
          elim either [
            | inl all ↦
                absurd (apart-all mesh query.filter first goals (limits_of query) list seen sound setting there searched last entry end is other all goal links held allowed)
            | inr less ↦
                (less, (beyond-seen mesh query.filter first goals (limits_of query) list seen sound setting there searched last entry end is other less).beyond goal links held allowed)
          ]

      deep-enough : IsAllSeen seen
          ⊎ (IsDeep mesh query.filter.areas first query.most_cost query.most_polygons seen × ArePlanLimits query.most_cost query.most_polygons)
      deep-enough = elim either [
        | inl all ↦ inl all
        | inr less ↦
            let by = beyond-seen mesh query.filter first goals (limits_of query) list seen sound setting there searched last entry end is other less in
            inr (by.deep, by.limited)
      ]

      heading-is : IsHeading mesh query first searched.aim searched.least
      heading-is = elim open_goals.one [
        | inl none ↦
            inr (searched.no_heading none, λ goal is'. contains_none goal (subst (λ (gs : List PolyRef). Contains gs goal) none (open_goals.all goal is')))
        | inr one ↦
            let by = searched.heading one.0 one.1 in
            inl (record {
              last = one.0;
              goal = open_goals.each one.0 (subst (λ (gs : List PolyRef). Contains gs one.0) (sym one.1) (has-one one.0));
              middle = by.middle;
              least_cost = by.least_cost;
            })
      ]

      module _ (rise : ℕ) (asked : query.partial ≡ Some rise) (spot : Spot)
          (best : IsNearestSpot mesh query.filter.areas first (record { goal = query.goal; y = query.goal_y; rise = rise }) list spot) where
        pub spot-end : IsEndOf mesh query list spot.place spot.end
        spot-end =
            let same = get-one list best.is.entry best.kept.entry spot.place best.is.there best.kept.there in
            record {
              entry = best.is.entry;
              there = best.is.there;
              at = best.is.at;
              first = first;
              start = start;
              leads = subst (λ (e : ReachedVertex). is_kept mesh query.filter.areas first e ≡ true) (sym same) best.kept.leads;
              held = record { polygon = best.is.polygon; there = best.is.is; holds = best.is.nearest_held.holds };
            }

        none-worse : (at : PolyRef) (links : List Link) (polygon : Polygon) (p : Point) → IsSpot mesh query first at links polygon p
            → IsAllSeen seen ⊎ (cost_of (priced mesh query.filter) links + rest_of mesh searched.aim searched.least at < seen)
            → IsNoWorse spot.near spot.cost (nearness_of rise query.goal query.goal_y polygon p) (cost_of (priced mesh query.filter) links)
        none-worse at links polygon p is' below =
            let made = allowed-steps mesh query.filter first goals (limits_of query) list seen sound there searched links at is'.allowed in
            let rest = searched.estimate_is (vertex_of at) in
            let reached = searched.explored.within (vertex_of at) made.steps made.walks (elim below [
              | inl all ↦ inr all
              | inr less ↦ inl (omega (arith, less, made.cost, rest))
            ]) in
            let same : polygon_of reached.entry.vertex ≡ at = ap polygon_of reached.is in
            let kept = subst (λ (v : PolyRef). leads_on mesh query.filter.areas first v ≡ true) (sym same) (leads-there at links is'.allowed) in
            let within = slice_get_within list reached.place reached.entry reached.there in
            let none = best.none reached.place within (record { entry = reached.entry; there = reached.there; leads = kept }) reached.entry polygon p reached.there
            (ap (poly_at mesh) same ∙ is'.there) is'.holds in
            let least = reached-least mesh query.filter first goals (limits_of query) list seen sound there searched reached.place reached.entry links reached.there
            (subst (AllowedTo mesh query.filter.areas first links) (sym same) is'.allowed) in
            no-worse-cost spot.near spot.cost _ reached.entry.cost _ none least

        pub partial-way : (way : PathFound) → IsWayTo mesh query list spot.place spot.end way → IsPartialWay mesh query way spot.end seen
        partial-way way led =
            let same = one_located mesh query.from query.from_y first way.first start led.start in
            let cost : way.cost ≡ spot.cost = led.cost_is best.is.entry best.is.there ∙ sym best.is.cost_is in
            record {
              rise = rise;
              asked = asked;
              start = led.start;
              cheapest = led.cheapest;
              last = best.is.polygon;
              there = best.is.is;
              nearest_held = best.is.nearest_held;
              floor = best.is.floor;
              taut = led.taut;
              aim = searched.aim;
              least = searched.least;
              heading = subst (λ (v : PolyRef). IsHeading mesh query v searched.aim searched.least) same heading-is;
              no_worse = λ at links polygon p is' below.
                  subst (λ (n : ℕ). IsNoWorse n way.cost (nearness_of rise query.goal query.goal_y polygon p) (cost_of (priced mesh query.filter) links)) best.is.near_is
                  (subst (λ (n : ℕ). IsNoWorse spot.near n (nearness_of rise query.goal query.goal_y polygon p) (cost_of (priced mesh query.filter) links)) (sym cost)
                  (none-worse at links polygon p (subst (λ (v : PolyRef). IsSpot mesh query v at links polygon p) (sym same) is') below));
              beyond = λ goal links located allowed.
                  beyond-goal goal links located (subst (λ (v : PolyRef). AllowedTo mesh query.filter.areas v links goal) (sym same) allowed);
              deep = subst (λ (v : PolyRef). IsAllSeen seen
                  ⊎ (IsDeep mesh query.filter.areas v query.most_cost query.most_polygons seen × ArePlanLimits query.most_cost query.most_polygons)) same deep-enough;
              within_cost = led.within_cost;
              within_count = led.within_count;
            }
