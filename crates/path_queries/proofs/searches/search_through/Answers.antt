use Rattle.std.proofs.Common.{◌≡◌, ◌*◌, ◌∙◌, ℕ, List, length, ap, refl, sym, subst, arith}
use Rattle.std.specs.Prelude.{Contains, map}
use Rattle.std.proofs.lemmas.Result.{IfOk-weaker}
use Rattle.graph_search.specs.declared.graph.Vertex.{Vertex}
use Rattle.graph_search.specs.Exploring.{IsExplored}
use Rattle.corridor_search.specs.MeshGraphs.{polygon_of, vertex_of, vertices_of}
use Rattle.corridor_search.specs.Estimates.{estimate_from}
use Rattle.corridor_search.proofs.Vertices.{there-contains}
use Rattle.path_queries.specs.FilteredGraphs.{AreSearchCosts, filtered_arcs, filtered_estimates}
use Rattle.path_queries.specs.Searches.{IsHeadingFor}
use Rattle.path_queries.proofs.Searched.{explored-if, filtered-searchable, heading-rules}
use Rattle.path_queries.proofs.searches.search_through.Goals as goal

pub explore_in-requires-clause-sound : goal.explore_in-requires-clause-sound
explore_in-requires-clause-sound c = heading-rules c.args.mesh.now c.args.filter.now c.unwrap_or-costs.result c.search_costs.result c.heading_for-heading.result.aim
    c.heading_for-heading.result.least c.requires.sound c.requires.setting c.requires.filter c.unwrap_or-costs.ensures c.search_costs.ensures
    c.heading_for-heading.ensures.least c.heading_for-heading.ensures.in_field

pub explore_in-requires-clause-searchable : goal.explore_in-requires-clause-searchable
explore_in-requires-clause-searchable c =
    filtered-searchable c.args.mesh.now c.args.filter.now.areas c.search_costs.result c.args.sought.from c.heading_for-heading.result.aim
    c.heading_for-heading.result.least (heading-rules c.args.mesh.now c.args.filter.now c.unwrap_or-costs.result c.search_costs.result c.heading_for-heading.result.aim
    c.heading_for-heading.result.least c.requires.sound c.requires.setting c.requires.filter c.unwrap_or-costs.ensures c.search_costs.ensures
    c.heading_for-heading.ensures.least c.heading_for-heading.ensures.in_field)

pub explore_in-requires-clause-there : goal.explore_in-requires-clause-there
explore_in-requires-clause-there c =
    subst (Contains (vertices_of c.args.mesh.now)) (sym c.vertex_at.ensures) (there-contains c.args.mesh.now c.args.sought.from c.requires.from)

pub returns : goal.returns
returns c =
    let mesh = c.args.mesh.now in
    let filter = c.args.filter.now in
    let search = c.search_costs.result in
    let aim = c.heading_for-heading.result.aim in
    let least = c.heading_for-heading.result.least in
    let rules = heading-rules c.args.mesh.now c.args.filter.now c.unwrap_or-costs.result c.search_costs.result c.heading_for-heading.result.aim
    c.heading_for-heading.result.least c.requires.sound c.requires.setting c.requires.filter c.unwrap_or-costs.ensures c.search_costs.ensures
    c.heading_for-heading.ensures.least c.heading_for-heading.ensures.in_field in
    let estimate : Vertex → ℕ = filtered_estimates mesh aim least in
    let stops : c.as_slice-stops.result.now ≡ map vertex_of c.args.sought.goals.now = c.as_slice-stops.ensures.value ∙ c.in_ok-stops.ensures in
    IfOk-weaker c.explore_in.result _ _
    (λ found explored. record {
      search = search;
      are = subst (λ (costs : List ℕ). AreSearchCosts filter.areas costs search) c.unwrap_or-costs.ensures c.search_costs.ensures;
      costs_are = rules.costs_are;
      estimate = estimate;
      no_rest = c.heading_for-heading.ensures.no_rest;
      no_goal = λ none v. ap (λ (n : ℕ). estimate_from mesh aim (polygon_of v) * n) (c.heading_for-heading.ensures.no_goal none) ∙ times-none (estimate_from mesh aim (polygon_of v));
      aim = aim;
      least = least;
      estimate_is = λ v. refl;
      no_heading = c.heading_for-heading.ensures.no_goal;
      heading = λ goal is. subst (λ (costs : List ℕ). IsHeadingFor mesh filter.areas costs goal aim least) c.unwrap_or-costs.ensures
          (c.heading_for-heading.ensures.one_goal goal is);
      explored = subst (λ (vs : List Vertex). IsExplored (filtered_arcs mesh filter.areas search c.args.sought.from) estimate (vertex_of c.args.sought.from) vs c.args.sought.limits (length (vertices_of mesh)) (length (vertices_of mesh) * 2897000) found.reached.items found.seen) stops
          (subst (λ (v : Vertex). IsExplored (filtered_arcs mesh filter.areas search c.args.sought.from) estimate v c.as_slice-stops.result.now c.args.sought.limits (length (vertices_of mesh)) (length (vertices_of mesh) * 2897000) found.reached.items found.seen) c.vertex_at.ensures explored);
    })
    (explored-if (filtered_arcs mesh filter.areas search c.args.sought.from) estimate c.vertex_at.result c.as_slice-stops.result.now c.args.sought.limits _ _ c.explore_in.result
    c.explore_in.ensures.tree c.explore_in.ensures.once c.explore_in.ensures.least c.explore_in.ensures.order c.explore_in.ensures.limited c.explore_in.ensures.within
    c.explore_in.ensures.stopped c.explore_in.ensures.ended c.explore_in.ensures.few c.explore_in.ensures.short)
  where
    times-none : (n : ℕ) → n * 0 ≡ 0
    times-none n = omega arith
