-- What a search through a filter says of allowed walks.
use Rattle.std.proofs.Common.{◌≡◌, ℕ, ◌+◌, ◌<◌, ◌≤◌, true, List, sym, subst, ap, ◌∙◌, inl, inr, arith}
use Rattle.std.specs.Prelude.{Contains, slice_get, Some}
use Rattle.std.proofs.lemmas.Bool.{cases_eq}
use Rattle.std.proofs.lemmas.List.Elements.{Contains-get_or}
use Rattle.mesh_types.specs.declared.links.Link.{Link}
use Rattle.mesh_types.specs.declared.links.PolyRef.{PolyRef}
use Rattle.mesh_types.specs.declared.mesh.Mesh.{Mesh}
use Rattle.mesh_types.specs.Corridors.{IsLinkOf, cost_of, weight_of}
use Rattle.mesh_types.specs.Soundness.{IsSound}
use Rattle.graph_search.specs.declared.exploring.Limits.{Limits}
use Rattle.graph_search.specs.declared.exploring.ReachedVertex.{ReachedVertex}
use Rattle.graph_search.specs.declared.graph.Arc.{Arc}
use Rattle.graph_search.specs.declared.graph.Step.{Step}
use Rattle.graph_search.specs.declared.graph.Vertex.{Vertex}
use Rattle.graph_search.specs.Explored.{IsReachedBy, step_from}
use Rattle.graph_search.specs.Walks as graph
use Rattle.graph_search.proofs.Moves.{arc-of-move, move-there, move_of, moves-step}
use Rattle.graph_search.proofs.ReachedLists.{get-one}
use Rattle.corridor_search.specs.MeshGraphs.{IsThere, arc_over, no_link, polygon_of, vertex_of}
use Rattle.corridor_search.proofs.Searchable.{enters-there}
use Rattle.corridor_search.proofs.Sound.{leads}
use Rattle.path_queries.specs.declared.filters.Filter.{Filter}
use Rattle.path_queries.specs.Filters.{AllowedTo, Enters, costs_in, priced, with_costs}
use Rattle.path_queries.specs.FilteredGraphs.{filtered_arcs, filtered_links, leads_on}
use Rattle.path_queries.specs.Searches.{AreViaNoLater, IsSearchedThrough}
use Rattle.path_queries.proofs.AllowedWalks.{allowed-moves, cost-same, weight-same}
use Rattle.path_queries.proofs.FilteredLinks.{held-link, held-on, on-cases, start-on}

-- a link that leaves a polygon through a filter, by which another was reached
pub record IsArcLink (mesh : Mesh) (areas : ℕ) (search : List ℕ) (from : PolyRef) (before entry : ReachedVertex) : Type 0 where
  pub link : Link
  pub held : Contains (filtered_links mesh areas from before.vertex) link
  pub to : link.to ≡ polygon_of entry.vertex
  pub adds_up : entry.cost ≡ before.cost + weight_of (with_costs search mesh) link

module _ (mesh : Mesh) (filter : Filter) (from : PolyRef) (goals : List PolyRef) (limits : Limits) (list : List ReachedVertex) (seen : ℕ)
    (sound : IsSound mesh) (there : IsThere mesh from) (searched : IsSearchedThrough mesh filter from goals limits list seen) where
  abbrev pub arcs : Vertex → List Arc
  arcs = filtered_arcs mesh filter.areas searched.search from

  -- the steps of an allowed walk
  pub record IsAllowedSteps (links : List Link) (at : PolyRef) : Type 0 where
    pub steps : List Step
    pub walks : graph.Walks arcs (vertex_of from) steps (vertex_of at)
    pub cost : graph.cost_of arcs steps ≡ cost_of (priced mesh filter) links

  pub allowed-steps : (links : List Link) (at : PolyRef) → AllowedTo mesh filter.areas from links at → IsAllowedSteps links at
  allowed-steps links at allowed =
      let moves = allowed-moves mesh filter.areas searched.search from sound links from at allowed.walks allowed.enters
      (start-on mesh filter.areas from) in
      let made = moves-step (filtered_links mesh filter.areas from) (arc_over (with_costs searched.search mesh)) no_link links (vertex_of from)
      (vertex_of at) moves in
      record {
        steps = made.0;
        walks = made.1;
        cost = made.2 ∙ cost-same mesh filter.areas (costs_in mesh filter) searched.search from links at sound searched.are allowed.walks
            allowed.enters;
      }

  -- no allowed walk to a polygon that was reached costs less than is said
  pub reached-least : (k : ℕ) (entry : ReachedVertex) (links : List Link) → slice_get list k ≡ Some entry
      → AllowedTo mesh filter.areas from links (polygon_of entry.vertex) → entry.cost ≤ cost_of (priced mesh filter) links
  reached-least k entry links is allowed =
      let made = allowed-steps links (polygon_of entry.vertex) allowed in
      let less = searched.explored.least k entry made.steps is made.walks in
      omega (arith, less, made.cost)

  -- the link by which a polygon was reached
  pub arc-link : (k : ℕ) (entry : ReachedVertex) → (reached : IsReachedBy arcs list k entry)
      → IsArcLink mesh filter.areas searched.search from reached.before entry
  arc-link k entry reached =
      let links = filtered_links mesh filter.areas from in
      let arc = arc_over (with_costs searched.search mesh) in
      let step : Step = step_from reached.before entry in
      let link : Link = move_of links no_link step in
      let below = move-there links arc step reached.leaves in
      let is : graph.arc_of arcs step ≡ arc link = arc-of-move links arc no_link step reached.leaves in
      let weight : (graph.arc_of arcs step).weight ≡ weight_of (with_costs searched.search mesh) link = ap (λ (a : Arc). a.weight) is in
      record {
        link = link;
        held = Contains-get_or (links step.from) step.place no_link below;
        to = ap polygon_of (sym (ap (λ (a : Arc). a.to) is) ∙ reached.enters);
        adds_up = omega (arith, reached.adds_up, weight);
      }

  -- what was reached is there
  pub reached-there : (k : ℕ) (entry : ReachedVertex) → slice_get list k ≡ Some entry → IsThere mesh (polygon_of entry.vertex)
  reached-there k entry is =
      elim (cases_eq k 0) [
        | inl none ↦
            let same = get-one list entry _ 0 (ap (λ (m : ℕ). slice_get list m) (sym none) ∙ is) searched.explored.tree.begins in
            subst (λ (e : ReachedVertex). IsThere mesh (polygon_of e.vertex)) (sym same) there
        | inr some ↦
            let reached = searched.explored.tree.steps k entry (omega (arith, some)) is in
            let arc = arc-link k entry reached in
            subst (IsThere mesh) arc.to
            (enters-there mesh (polygon_of reached.before.vertex) arc.link sound
            (held-link mesh filter.areas from reached.before.vertex arc.link arc.held))
      ]

  -- none from a later one
  pub via-no-later : AreViaNoLater list
  via-no-later k entry is =
      elim (cases_eq k 0) [
        | inl none ↦
            let same = get-one list entry _ 0 (ap (λ (m : ℕ). slice_get list m) (sym none) ∙ is) searched.explored.tree.begins in
            let via : entry.via ≡ 0 = ap (λ (e : ReachedVertex). e.via) same in
            omega (arith, via)
        | inr some ↦
            let reached = searched.explored.tree.steps k entry (omega (arith, some)) is in
            omega (arith, reached.earlier)
      ]

  -- a link by which a polygon was reached from which a walk may lead on
  pub record IsEntered (before entry : ReachedVertex) : Type 0 where
    pub link : Link
    pub on : leads_on mesh filter.areas from (polygon_of before.vertex) ≡ true
    pub listed : IsLinkOf mesh link
    pub leaves : link.from ≡ polygon_of before.vertex
    pub enters : Enters mesh filter.areas link
    pub reaches : link.to ≡ polygon_of entry.vertex
    pub adds_up : entry.cost ≡ before.cost + weight_of (priced mesh filter) link

  pub entered : (k : ℕ) (entry : ReachedVertex) → 0 < k → slice_get list k ≡ Some entry
      → leads_on mesh filter.areas from (polygon_of entry.vertex) ≡ true → (reached : IsReachedBy arcs list k entry)
      → IsEntered reached.before entry
  entered k entry some is on reached =
      let arc = arc-link k entry reached in
      let leading = leads mesh (polygon_of reached.before.vertex) arc.link sound
      (held-link mesh filter.areas from reached.before.vertex arc.link arc.held) in
      let through = leading.through in
      let enters : Enters mesh filter.areas arc.link =
      elim (on-cases mesh filter.areas from arc.link.to through.enters through.is_entered
      (subst (λ (at : PolyRef). leads_on mesh filter.areas from at ≡ true) (sym arc.to) on)) [
        | inl back ↦
            let same : entry.vertex ≡ vertex_of from = ap vertex_of (sym arc.to ∙ back) in
            absurd (omega (arith, some, searched.explored.once k 0 entry _ is searched.explored.tree.begins same))
        | inr is_open ↦ record { polygon = through.enters; there = through.is_entered; area_open = is_open }
      ] in
      let weight = weight-same mesh filter.areas (costs_in mesh filter) searched.search arc.link sound searched.are leading.listed enters in
      record {
        link = arc.link;
        on = held-on mesh filter.areas from reached.before.vertex arc.link arc.held;
        listed = leading.listed;
        leaves = leading.leaves;
        enters = enters;
        reaches = arc.to;
        adds_up = omega (arith, arc.adds_up, weight);
      }
