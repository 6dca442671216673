-- What a search back closes is a flood back.
use Rattle.std.proofs.Common.{◌≡◌, ℕ, ◌<◌, ◌≤◌, ◌^◌, List, [], length, map, sym, subst, ap, ◌∙◌, inl, inr, arith}
use Rattle.std.specs.Prelude.{slice_get, Some}
use Rattle.std.proofs.lemmas.Bool.{cases_eq}
use Rattle.std.proofs.lemmas.List.{length-map}
use Rattle.std.proofs.lemmas.Nat.{mul-le}
use Rattle.std.proofs.lemmas.Option.{same_Some}
use Rattle.mesh_types.specs.declared.links.Link.{Link}
use Rattle.mesh_types.specs.declared.links.PolyRef.{PolyRef}
use Rattle.mesh_types.specs.declared.mesh.Mesh.{Mesh}
use Rattle.mesh_types.specs.Corridors.{cost_of}
use Rattle.mesh_types.specs.Passages.{IsTwoWay}
use Rattle.mesh_types.specs.Soundness.{IsSound}
use Rattle.graph_search.specs.declared.exploring.Limits.{Limits}
use Rattle.graph_search.specs.declared.exploring.ReachedVertex.{ReachedVertex}
use Rattle.graph_search.specs.declared.graph.Arc.{Arc}
use Rattle.graph_search.specs.declared.graph.Step.{Step}
use Rattle.graph_search.specs.declared.graph.Vertex.{Vertex}
use Rattle.graph_search.specs.Explored.{HasEnded, IsReached}
use Rattle.graph_search.specs.Walks as graph
use Rattle.graph_search.proofs.Members.{contains_none}
use Rattle.corridor_search.specs.MeshGraphs.{polygon_of, vertex_of, vertices_of}
use Rattle.corridor_search.proofs.Searchable.{vertices-few}
use Rattle.path_queries.specs.declared.filters.Filter.{Filter}
use Rattle.path_queries.specs.declared.floods.Flooded.{Flooded}
use Rattle.path_queries.specs.BackGraphs.{IsExploredBack, arcs_back, flooded_back}
use Rattle.path_queries.specs.Filters.{AllowedTo, costs_in, priced}
use Rattle.path_queries.specs.Floods.{IsFlooded}
use Rattle.path_queries.specs.FloodsBack.{IsFloodBack, IsStepBack, IsWholeFloodBack}
use Rattle.path_queries.proofs.BackWalks.{link-toward, steps-back}
use Rattle.path_queries.proofs.MappedLists.{get-map, get-mapped}

module _ (mesh : Mesh) (filter : Filter) (last : PolyRef) (limits : Limits) (list : List ReachedVertex) (seen : ℕ) (sound : IsSound mesh)
    (two_way : IsTwoWay mesh) (explored : IsExploredBack mesh filter.areas (costs_in mesh filter) last limits list seen)
    (many : limits.count ≡ 18446744073709551615) where
  abbrev flood : List Flooded
  flood = map flooded_back list

  abbrev arcs : Vertex → List Arc
  arcs = arcs_back mesh filter.areas (costs_in mesh filter)

  each' : (k : ℕ) (entry : Flooded) → slice_get flood k ≡ Some entry → entry.cost ≤ limits.key
  each' k entry is =
      let o = get-mapped flooded_back list k entry is in
      let cost : o.of.cost ≡ entry.cost = ap (λ (e : Flooded). e.cost) o.is in
      elim (cases_eq k 0) [
        | inl none ↦
            let begins = ap (λ (m : ℕ). slice_get list m) (sym none) ∙ o.there in
            let free : 0 ≡ o.of.cost = ap (λ (e : ReachedVertex). e.cost) (same_Some _ _ (sym explored.tree.begins ∙ begins)) in
            omega (arith, cost, free)
        | inr some ↦
            let low = (explored.limited k o.of (omega (arith, some)) o.there).0 in
            omega (arith, cost, low)
      ]

  once' : (j k : ℕ) (a b : Flooded) → slice_get flood j ≡ Some a → slice_get flood k ≡ Some b → a.at ≡ b.at → j ≡ k
  once' j k a b is is' same =
      let o = get-mapped flooded_back list j a is in
      let p = get-mapped flooded_back list k b is' in
      let at : polygon_of o.of.vertex ≡ polygon_of p.of.vertex =
      ap (λ (e : Flooded). e.at) o.is ∙ same ∙ ap (λ (e : Flooded). e.at) (sym p.is) in
      explored.once j k o.of p.of o.there p.there (ap vertex_of at)

  rising' : (j k : ℕ) (a b : Flooded) → j ≤ k → slice_get flood j ≡ Some a → slice_get flood k ≡ Some b → a.cost ≤ b.cost
  rising' j k a b below is is' =
      let o = get-mapped flooded_back list j a is in
      let p = get-mapped flooded_back list k b is' in
      let cost : o.of.cost ≡ a.cost = ap (λ (e : Flooded). e.cost) o.is in
      let cost' : p.of.cost ≡ b.cost = ap (λ (e : Flooded). e.cost) p.is in
      omega (arith, explored.order j k o.of p.of below o.there p.there, cost, cost')

  least' : (k : ℕ) (entry : Flooded) (links : List Link) → slice_get flood k ≡ Some entry
      → AllowedTo mesh filter.areas entry.at links last → entry.cost ≤ cost_of (priced mesh filter) links
  least' k entry links is allowed =
      let o = get-mapped flooded_back list k entry is in
      let cost : o.of.cost ≡ entry.cost = ap (λ (e : Flooded). e.cost) o.is in
      let at : entry.at ≡ polygon_of o.of.vertex = ap (λ (e : Flooded). e.at) (sym o.is) in
      let walk = subst (λ (p : PolyRef). AllowedTo mesh filter.areas p links last) at allowed in
      let made = steps-back mesh filter.areas (costs_in mesh filter) sound two_way links (polygon_of o.of.vertex) last walk.walks walk.enters in
      omega (arith, explored.least k o.of made.steps o.there made.walks, made.cost, cost)

  steps' : (k : ℕ) (entry : Flooded) → 0 < k → slice_get flood k ≡ Some entry → IsStepBack mesh filter flood k entry
  steps' k entry some is =
      let o = get-mapped flooded_back list k entry is in
      let reached = explored.tree.steps k o.of some o.there in
      let toward = link-toward mesh filter.areas (costs_in mesh filter) sound two_way list k o.of reached in
      subst (IsStepBack mesh filter flood k) o.is (record {
        next = flooded_back reached.before;
        there = get-map flooded_back list o.of.via reached.before reached.there;
        earlier = reached.earlier;
        link = toward.link;
        listed = toward.listed;
        leaves = toward.leaves;
        enters = toward.enters;
        reaches = toward.reaches;
        adds_up = toward.adds_up;
      })

  all' : (polygon : PolyRef) (links : List Link) → AllowedTo mesh filter.areas polygon links last
      → cost_of (priced mesh filter) links ≤ limits.key → IsFlooded flood polygon
  all' polygon links allowed low =
      let made = steps-back mesh filter.areas (costs_in mesh filter) sound two_way links polygon last allowed.walks allowed.enters in
      let reached = by_end explored.ended made.steps made.walks (omega (arith, made.cost, low)) in
      record {
        place = reached.place;
        entry = flooded_back reached.entry;
        there = get-map flooded_back list reached.place reached.entry reached.there;
        is = ap polygon_of reached.is;
      }
    where
      by_end : HasEnded [] limits list seen → (steps : List Step) → graph.Walks arcs (vertex_of last) steps (vertex_of polygon)
          → graph.cost_of arcs steps ≤ limits.key → IsReached list (vertex_of polygon)
      by_end (inl all) steps walks below = explored.within (vertex_of polygon) steps walks (inr all)
      by_end (inr (inl stopped)) steps walks below = absurd (contains_none stopped.stop stopped.stops_there)
      by_end (inr (inr (inl key))) steps walks below = explored.within (vertex_of polygon) steps walks (inl (omega (arith, key, below)))
      by_end (inr (inr (inr count))) steps walks below = absurd (omega (arith, count, many, explored.short, vertices-few mesh sound))

  -- without a limit it has all
  whole' : seen ≤ 18446744073709551615 → limits.key ≡ 18446744073709551615 → (polygon : PolyRef) (links : List Link)
      → AllowedTo mesh filter.areas polygon links last → IsFlooded flood polygon
  whole' word free polygon links allowed =
      let made = steps-back mesh filter.areas (costs_in mesh filter) sound two_way links polygon last allowed.walks allowed.enters in
      let reached = explored.within (vertex_of polygon) made.steps made.walks (inr (by_end explored.ended)) in
      record {
        place = reached.place;
        entry = flooded_back reached.entry;
        there = get-map flooded_back list reached.place reached.entry reached.there;
        is = ap polygon_of reached.is;
      }
    where
      by_end : HasEnded [] limits list seen → seen ≡ 18446744073709551615
      by_end (inl all) = all
      by_end (inr (inl stopped)) = absurd (contains_none stopped.stop stopped.stops_there)
      by_end (inr (inr (inl key))) = absurd (omega (arith, key, word, free))
      by_end (inr (inr (inr count))) = absurd (omega (arith, count, many, explored.short, vertices-few mesh sound))

  low' : (k : ℕ) (entry : Flooded) → slice_get flood k ≡ Some entry → entry.cost < 2 ^ 45
  low' k entry is =
      let o = get-mapped flooded_back list k entry is in
      let cost : o.of.cost ≡ entry.cost = ap (λ (e : Flooded). e.cost) o.is in
      let most = mul-le (length (vertices_of mesh)) 2897000 8000000 2897000 (vertices-few mesh sound) (omega arith) in
      omega (arith, cost, explored.few k o.of o.there, most)

  flood-back-is : IsFloodBack mesh filter last limits.key flood
  flood-back-is = record {
    begins = get-map flooded_back list 0 _ explored.tree.begins;
    once = once';
    rising = rising';
    each = each';
    least = least';
    steps = steps';
    all = all';
  }

  pub whole-flood-is : seen ≤ 18446744073709551615 → IsWholeFloodBack mesh filter last limits.key flood
  whole-flood-is word = record {
    flood = flood-back-is;
    few = omega (arith, length-map list flooded_back, explored.short, vertices-few mesh sound);
    low = low';
    whole = whole' word;
  }
