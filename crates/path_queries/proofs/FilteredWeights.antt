-- What the arcs that leave a vertex through a filter enter and weigh: what those of the whole mesh do, by the costs that the search goes
-- by.
use Rattle.std.proofs.Common.{◌≡◌, ℕ, ◌<◌, ◌*◌, max, List, length, sym, ap, ◌∙◌, subst}
use Rattle.std.specs.Prelude.{slice_index, slice_index_or}
use Rattle.nav_base.specs.Distance.{distance_of}
use Rattle.mesh_types.specs.declared.extent.Extent.{Extent}
use Rattle.mesh_types.specs.declared.links.PolyRef.{PolyRef}
use Rattle.mesh_types.specs.declared.mesh.Mesh.{Mesh}
use Rattle.mesh_types.specs.Soundness.{IsSound}
use Rattle.graph_search.specs.declared.graph.Arc.{Arc}
use Rattle.graph_search.specs.declared.graph.Step.{Step}
use Rattle.graph_search.specs.declared.graph.Vertex.{Vertex}
use Rattle.graph_search.specs.Walks.{arc_of, no_arc}
use Rattle.corridor_search.specs.MeshGraphs.{IsThere, arcs_from, polygon_of}
use Rattle.corridor_search.specs.Estimates.{extent_at, middle_of}
use Rattle.corridor_search.proofs.Extents.{weight-by-extents}
use Rattle.corridor_search.proofs.Searchable.{step-enters}
use Rattle.path_queries.specs.Filters.{with_costs}
use Rattle.path_queries.specs.FilteredGraphs.{filtered_arcs}
use Rattle.path_queries.proofs.CostLaws.{sound-with}
use Rattle.path_queries.proofs.FilteredLinks.{arcs-all}

module _ (mesh : Mesh) (areas : ℕ) (costs : List ℕ) (start : PolyRef) (step : Step) (to : Vertex) (sound : IsSound mesh)
    (below : step.place < length (filtered_arcs mesh areas costs start step.from))
    (end : (arc_of (filtered_arcs mesh areas costs start) step).to ≡ to) where
  same : arc_of (filtered_arcs mesh areas costs start) step ≡ arc_of (arcs_from (with_costs costs mesh)) step
  same = ap (λ (arcs : List Arc). slice_index_or arcs step.place no_arc) (arcs-all mesh areas start costs step.from step.place below)

  below-all : step.place < length (arcs_from (with_costs costs mesh) step.from)
  below-all = subst (λ (arcs : List Arc). step.place < length arcs) (arcs-all mesh areas start costs step.from step.place below) below

  end-all : (arc_of (arcs_from (with_costs costs mesh)) step).to ≡ to
  end-all = ap (λ (arc : Arc). arc.to) (sym same) ∙ end

  -- the polygon that is entered is there
  pub entered-there : IsThere mesh (polygon_of to)
  entered-there =
      let there = step-enters (with_costs costs mesh) step to (sound-with mesh costs sound) below-all end-all in
      record { polygon = there.polygon; is = there.is }

  -- the weight by the extents of both ends
  pub weight-by : (left entered : Extent) → IsThere mesh (polygon_of step.from) → left ≡ extent_at mesh (polygon_of step.from)
      → entered ≡ extent_at mesh (polygon_of to)
      → max 1 (distance_of (middle_of left) (middle_of entered)) * slice_index costs entered.area ≡
      (arc_of (filtered_arcs mesh areas costs start) step).weight
  weight-by left entered there is_left is_entered =
      weight-by-extents (with_costs costs mesh) step to left entered (sound-with mesh costs sound)
      (record { polygon = there.polygon; is = there.is }) below-all end-all
      is_left is_entered
      ∙ ap (λ (arc : Arc). arc.weight) (sym same)
