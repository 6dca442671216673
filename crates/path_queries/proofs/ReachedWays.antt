-- The way to a polygon that a search reached.
use Rattle.std.proofs.Common.{◌≡◌, ℕ, ◌<◌, ◌≤◌, ◌^◌, inl, inr, true, List, length, map, refl, sym, ap, subst, ◌∙◌, arith}
use Rattle.std.specs.Prelude.{All, slice_get, Some}
use Rattle.std.proofs.lemmas.Bool.{cases_eq}
use Rattle.std.proofs.lemmas.List.{length-map}
use Rattle.std.proofs.lemmas.List.Elements.{All-weaker}
use Rattle.std.proofs.lemmas.Nat.{mul-le}
use Rattle.std.proofs.lemmas.Option.{slice_get_within}
use Rattle.nav_ground.specs.Limits.{IsSetting}
use Rattle.mesh_types.specs.declared.links.Link.{Link}
use Rattle.mesh_types.specs.declared.links.PolyRef.{PolyRef}
use Rattle.mesh_types.specs.declared.mesh.Mesh.{Mesh}
use Rattle.mesh_types.specs.Rays.{IsHeldAt}
use Rattle.mesh_types.specs.Right.{portals_of}
use Rattle.mesh_types.specs.Soundness.{IsSound}
use Rattle.mesh_types.proofs.HeldPoints.{held_coordinates}
use Rattle.mesh_types.proofs.MeshLinks.{held_in}
use Rattle.mesh_types.proofs.RightLaws.{one_located}
use Rattle.mesh_types.proofs.WalkChains.{HasEnds, walk_is_chain, walk_ends}
use Rattle.mesh_types.specs.Corridors.{WalksTo}
use Rattle.funnel_path.specs.Coordinates.{HasEndCoordinates}
use Rattle.graph_search.specs.declared.exploring.ReachedVertex.{ReachedVertex}
use Rattle.graph_search.specs.declared.graph.Arc.{Arc}
use Rattle.graph_search.specs.declared.graph.Vertex.{Vertex}
use Rattle.graph_search.specs.declared.graph.Walk.{Walk}
use Rattle.graph_search.specs.Explored.{IsReachedWalk}
use Rattle.graph_search.proofs.ReachedLists.{get-one}
use Rattle.graph_search.proofs.ReachedWalks.{reached-cheapest}
use Rattle.corridor_search.specs.MeshGraphs.{IsOver, IsThere, link_of, polygon_of, vertex_of, vertices_of}
use Rattle.corridor_search.proofs.Searchable.{vertices-few}
use Rattle.corridor_search.proofs.Sound.{polygon-rules}
use Rattle.path_queries.specs.declared.plans.PathQuery.{PathQuery}
use Rattle.path_queries.specs.declared.plans.WayEnd.{WayEnd}
use Rattle.path_queries.specs.Filters.{IsCheapestAllowed}
use Rattle.path_queries.specs.Plans.{CanPlan}
use Rattle.path_queries.specs.Reached.{IsEndOf, IsReachedList, limits_of}
use Rattle.path_queries.specs.Searches.{is_kept}
use Rattle.path_queries.proofs.AllowedWalks.{taken-over, walk-cheapest}
use Rattle.path_queries.proofs.CostLaws.{setting-with}
use Rattle.path_queries.proofs.Reaching.{arcs}
use Rattle.path_queries.proofs.WayParts.{ArePulled, located-there}

module _ (mesh : Mesh) (query : PathQuery) (list : List ReachedVertex) (sound : IsSound mesh) (setting : IsSetting mesh.setting)
    (r : IsReachedList mesh query list) where
  abbrev there : IsThere mesh r.first
  there = located-there mesh query.from query.from_y r.first r.start

  abbrev pub arcs-of : Vertex → List Arc
  arcs-of = arcs mesh query.filter r.first r.goals (limits_of query) list r.seen sound there r.searched

  pub some-reached : 0 < length list
  some-reached = slice_get_within list 0 _ r.searched.explored.tree.begins

  pub first-is : (entry : ReachedVertex) → slice_get list 0 ≡ Some entry → polygon_of entry.vertex ≡ r.first
  first-is entry is =
      let same = get-one list entry _ 0 is r.searched.explored.tree.begins in
      ap (λ (e : ReachedVertex). polygon_of e.vertex) same

  -- the end's own start is that of the list
  pub end-leads : (place : ℕ) (end : WayEnd) (e : IsEndOf mesh query list place end) → is_kept mesh query.filter.areas r.first e.entry ≡ true
  end-leads place end e =
      subst (λ (at : PolyRef). is_kept mesh query.filter.areas at e.entry ≡ true) (one_located mesh query.from query.from_y e.first r.first e.start r.start) e.leads

  module _ (place : ℕ) (walk : Walk) (walked : IsReachedWalk arcs-of (vertex_of r.first) list place walk) where
    pub over : All (IsOver mesh) walk.steps.items
    over = taken-over mesh query.filter.areas r.searched.search r.first sound walk.steps.items (vertex_of r.first) walked.entry.vertex walked.walks

    within-limits : (walked.entry.cost ≤ query.most_cost) × (place ≤ query.most_polygons)
    within-limits = elim (cases_eq place 0) [
      | inl none ↦
          let same = get-one list walked.entry _ 0 (ap (λ (m : ℕ). slice_get list m) (sym none) ∙ walked.there) r.searched.explored.tree.begins in
          let free : walked.entry.cost ≡ 0 = ap (λ (e : ReachedVertex). e.cost) same in
          (omega (arith, free), omega (arith, none))
      | inr some ↦
          let limited = r.searched.explored.limited place walked.entry (omega (arith, some)) walked.there in
          (omega (arith, limited.0), omega (arith, limited.1))
    ]

    -- what is known of the links that it takes
    pub record IsLed (links : List Link) (at : PolyRef) : Type 0 where
      pub cheapest : IsCheapestAllowed mesh query.filter r.first at (record { cost = walk.cost; links = links })
      pub within_cost : walk.cost ≤ query.most_cost
      pub within_count : length links ≤ query.most_polygons
      pub low : walk.cost < 2 ^ 45
      pub few : length (portals_of links) < 4294967295

    pub led : (links : List Link) (end : WayEnd) → links ≡ map (link_of mesh) walk.steps.items → length walk.steps.items ≤ place
        → (e : IsEndOf mesh query list place end) → IsLed links end.polygon
    led links end are short e =
        let same = get-one list walked.entry e.entry place walked.there e.there in
        let at : polygon_of walked.entry.vertex ≡ end.polygon = ap (λ (x : ReachedVertex). polygon_of x.vertex) same ∙ sym e.at in
        let on = subst (λ (x : ReachedVertex). is_kept mesh query.filter.areas r.first x ≡ true) (sym same) (end-leads place end e) in
        let cheapest = reached-cheapest arcs-of (vertex_of r.first) list place walk r.searched.explored.least walked in
        let few = vertices-few mesh sound in
        let most = mul-le (length (vertices_of mesh)) 2897000 8000000 2897000 few (omega arith) in
        let low = r.searched.explored.few place walked.entry walked.there in
        let below = slice_get_within list place walked.entry walked.there in
        let count : length links ≡ length walk.steps.items =
        ap (λ (ls : List Link). length ls) are ∙ length-map walk.steps.items (link_of mesh) in
        record {
          cheapest = subst (λ (p : PolyRef). IsCheapestAllowed mesh query.filter r.first p (record { cost = walk.cost; links = links })) at
              (walk-cheapest mesh query.filter r.searched.search r.first (polygon_of walked.entry.vertex) sound r.searched.are on walk
              (record { cost = walk.cost; links = links }) (setting-with mesh.setting r.searched.search setting r.searched.costs_are) cheapest refl are);
          within_cost = omega (arith, within-limits.0, walked.cost);
          within_count = omega (arith, within-limits.1, short, count);
          low = omega (arith, low, most, walked.cost);
          few = omega (arith, below, short, count, r.searched.explored.short, few, length-map links (λ (link : Link). link.portal));
        }

  -- the portals of a walk to an end can be pulled
  pub end-pulled : (end : WayEnd) (links : List Link) → CanPlan query → IsHeldAt mesh end.point end.polygon → WalksTo mesh r.first links end.polygon
      → ArePulled query.from (portals_of links) end.point
  end-pulled end links can held walks = record {
    chain =
        walk_is_chain mesh r.first links end.polygon query.from end.point sound walks (held_in mesh query.from query.from_y r.first r.start.holding)
        (record { polygon = held.polygon; there = held.there; holds = held.holds });
    coordinates = record {
      at_start = can.from;
      at_ends = All-weaker HasEnds HasEndCoordinates (λ portal ends. record { left = ends.left; right = ends.right }) (portals_of links)
          (walk_ends mesh r.first links end.polygon sound walks);
      at_goal = held_coordinates held.polygon end.point (polygon-rules mesh end.polygon held.polygon sound held.there) held.holds;
    };
  }
