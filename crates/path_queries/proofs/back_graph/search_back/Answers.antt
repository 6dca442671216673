use Rattle.std.proofs.Common.{ℕ, ◌*◌, List, [], length, sym, subst}
use Rattle.std.specs.Prelude.{Contains}
use Rattle.std.proofs.lemmas.Result.{IfOk-weaker}
use Rattle.graph_search.specs.declared.graph.Vertex.{Vertex}
use Rattle.graph_search.specs.Exploring.{IsExplored}
use Rattle.corridor_search.specs.MeshGraphs.{vertices_of}
use Rattle.corridor_search.proofs.Vertices.{there-contains}
use Rattle.path_queries.specs.BackGraphs.{IsExploredBack, arcs_back, no_estimate}
use Rattle.path_queries.specs.Filters.{AreCosts}
use Rattle.path_queries.proofs.BackSearches.{searchable-back}
use Rattle.path_queries.proofs.CostLaws.{priced-costs}
use Rattle.path_queries.proofs.Searched.{explored-if}
use Rattle.path_queries.proofs.back_graph.search_back.Goals as goal

pub explore_in-requires-clause-sound : goal.explore_in-requires-clause-sound
explore_in-requires-clause-sound c = record {
  sound = c.requires.sound;
  setting = c.requires.setting;
  two_way = c.requires.two_way;
  costs_are = subst AreCosts (sym c.unwrap_or-costs.ensures)
      (priced-costs c.args.mesh.now c.args.filter.now c.requires.setting c.requires.filter);
}

pub explore_in-requires-clause-searchable : goal.explore_in-requires-clause-searchable
explore_in-requires-clause-searchable c =
    searchable-back c.args.mesh.now c.args.filter.now.areas c.unwrap_or-costs.result (record {
      sound = c.requires.sound;
      setting = c.requires.setting;
      two_way = c.requires.two_way;
      costs_are = subst AreCosts (sym c.unwrap_or-costs.ensures)
          (priced-costs c.args.mesh.now c.args.filter.now c.requires.setting c.requires.filter);
    })

pub explore_in-requires-clause-there : goal.explore_in-requires-clause-there
explore_in-requires-clause-there c =
    subst (Contains (vertices_of c.args.mesh.now)) (sym c.vertex_at.ensures) (there-contains c.args.mesh.now c.args.last c.requires.last)

pub returns : goal.returns
returns c =
    let mesh = c.args.mesh.now in
    let filter = c.args.filter.now in
    IfOk-weaker c.explore_in.result _ _
    (λ found explored.
    subst (λ (costs : List ℕ). IsExploredBack mesh filter.areas costs c.args.last c.args.limits found.reached.items found.seen)
    c.unwrap_or-costs.ensures
    (subst (λ (v : Vertex). IsExplored (arcs_back mesh filter.areas c.unwrap_or-costs.result) no_estimate v [] c.args.limits
    (length (vertices_of mesh)) (length (vertices_of mesh) * 2897000) found.reached.items found.seen) c.vertex_at.ensures explored))
    (explored-if (arcs_back mesh filter.areas c.unwrap_or-costs.result) no_estimate c.vertex_at.result [] c.args.limits _ _ c.explore_in.result
    c.explore_in.ensures.tree c.explore_in.ensures.once c.explore_in.ensures.least c.explore_in.ensures.order c.explore_in.ensures.limited c.explore_in.ensures.within
    c.explore_in.ensures.stopped c.explore_in.ensures.ended c.explore_in.ensures.few c.explore_in.ensures.short)
