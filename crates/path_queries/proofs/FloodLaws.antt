-- What a search through a filter closes, without the polygons that may not be entered, is a flood.
use Rattle.std.proofs.Common.{◌≡◌, ℕ, ◌<◌, ◌≤◌, Bool, true, List, [], refl, sym, subst, ap, ◌∙◌, inl, inr, arith}
use Rattle.std.specs.Prelude.{slice_get, Some}
use Rattle.std.specs.List as lists
use Rattle.std.proofs.lemmas.Bool.{cases_eq, cases_lt}
use Rattle.std.proofs.lemmas.Option.{same_Some}
use Rattle.mesh_types.specs.declared.links.Link.{Link}
use Rattle.mesh_types.specs.declared.links.PolyRef.{PolyRef}
use Rattle.mesh_types.specs.declared.mesh.Mesh.{Mesh}
use Rattle.mesh_types.specs.Corridors.{cost_of}
use Rattle.mesh_types.specs.Soundness.{IsSound}
use Rattle.graph_search.specs.declared.exploring.Limits.{Limits}
use Rattle.graph_search.specs.declared.exploring.ReachedVertex.{ReachedVertex}
use Rattle.graph_search.specs.declared.graph.Step.{Step}
use Rattle.graph_search.specs.declared.graph.Vertex.{Vertex}
use Rattle.graph_search.specs.Explored.{HasEnded, IsReached}
use Rattle.graph_search.specs.Walks as graph
use Rattle.graph_search.proofs.Members.{contains_none}
use Rattle.corridor_search.specs.MeshGraphs.{IsThere, polygon_of, vertex_of}
use Rattle.corridor_search.proofs.Searchable.{vertices-few}
use Rattle.path_queries.specs.declared.filters.Filter.{Filter}
use Rattle.path_queries.specs.declared.floods.Flooded.{Flooded}
use Rattle.path_queries.specs.Filters.{AllowedTo, priced}
use Rattle.path_queries.specs.FilteredGraphs.{leads_on}
use Rattle.path_queries.specs.Floods.{IsFlood, IsFlooded, IsFloodStep}
use Rattle.path_queries.specs.Searches.{IsSearchedThrough, flooded_as, flooded_of, is_kept, kept_before}
use Rattle.path_queries.proofs.AllowedWalks.{end-on}
use Rattle.path_queries.proofs.FilteredLinks.{start-on}
use Rattle.path_queries.proofs.KeptEntries.{before-more, kept-at, kept-from}
use Rattle.path_queries.proofs.MappedLists.{get-map, get-mapped}
use Rattle.path_queries.proofs.Reaching.{allowed-steps, arcs, entered, reached-least}

module _ (mesh : Mesh) (filter : Filter) (from : PolyRef) (limits : Limits) (list : List ReachedVertex) (seen : ℕ)
    (sound : IsSound mesh) (there : IsThere mesh from) (searched : IsSearchedThrough mesh filter from [] limits list seen)
    (many : limits.count ≡ 18446744073709551615) where
  abbrev keep : ReachedVertex → Bool
  keep = is_kept mesh filter.areas from

  abbrev flood : List Flooded
  flood = flooded_of mesh filter.areas from list

  -- an entry of the flood stands for a polygon that was reached
  record IsFrom (j : ℕ) (entry : Flooded) : Type 0 where
    place : ℕ
    of : ReachedVertex
    of_there : slice_get list place ≡ Some of
    held : keep of ≡ true
    at_place : j ≡ kept_before mesh filter.areas from list place
    is : flooded_as mesh filter.areas from list of ≡ entry

  comes-from : (j : ℕ) (entry : Flooded) → slice_get flood j ≡ Some entry → IsFrom j entry
  comes-from j entry is =
      let mapped = get-mapped (flooded_as mesh filter.areas from list) (lists.filter keep list) j entry is in
      let kept = kept-from ReachedVertex keep list j mapped.of mapped.there in
      record { place = kept.place; of = mapped.of; of_there = kept.there; held = kept.held; at_place = kept.is; is = mapped.is }

  stands : (k : ℕ) (e : ReachedVertex) → slice_get list k ≡ Some e → keep e ≡ true
      → slice_get flood (kept_before mesh filter.areas from list k) ≡ Some (flooded_as mesh filter.areas from list e)
  stands k e is held =
      get-map (flooded_as mesh filter.areas from list) (lists.filter keep list) (kept_before mesh filter.areas from list k) e
      (kept-at ReachedVertex keep list k e is held)

  no-rest : (v : Vertex) → searched.estimate v ≡ 0
  no-rest = searched.no_goal refl

  each' : (j : ℕ) (entry : Flooded) → slice_get flood j ≡ Some entry → entry.cost ≤ limits.key
  each' j entry is =
      let o = comes-from j entry is in
      let cost : o.of.cost ≡ entry.cost = ap (λ (e : Flooded). e.cost) o.is in
      elim (cases_eq o.place 0) [
        | inl none ↦
            let begins = ap (λ (m : ℕ). slice_get list m) (sym none) ∙ o.of_there in
            let free : 0 ≡ o.of.cost = ap (λ (e : ReachedVertex). e.cost) (same_Some _ _ (sym searched.explored.tree.begins ∙ begins)) in
            omega (arith, cost, free)
        | inr some ↦
            let low = (searched.explored.limited o.place o.of (omega (arith, some)) o.of_there).0 in
            omega (arith, cost, low)
      ]

  once' : (j k : ℕ) (a b : Flooded) → slice_get flood j ≡ Some a → slice_get flood k ≡ Some b → a.at ≡ b.at → j ≡ k
  once' j k a b is is' same =
      let o = comes-from j a is in
      let p = comes-from k b is' in
      let at : polygon_of o.of.vertex ≡ polygon_of p.of.vertex =
      ap (λ (e : Flooded). e.at) o.is ∙ same ∙ ap (λ (e : Flooded). e.at) (sym p.is) in
      let places = searched.explored.once o.place p.place o.of p.of o.of_there p.of_there (ap vertex_of at) in
      o.at_place ∙ ap (kept_before mesh filter.areas from list) places ∙ sym p.at_place

  rising' : (j k : ℕ) (a b : Flooded) → j ≤ k → slice_get flood j ≡ Some a → slice_get flood k ≡ Some b → a.cost ≤ b.cost
  rising' j k a b below is is' =
      let o = comes-from j a is in
      let p = comes-from k b is' in
      let cost : o.of.cost ≡ a.cost = ap (λ (e : Flooded). e.cost) o.is in
      let cost' : p.of.cost ≡ b.cost = ap (λ (e : Flooded). e.cost) p.is in
      elim (cases_lt p.place o.place) [
        | inl less ↦
            let more = before-more ReachedVertex keep list p.place p.of p.of_there p.held o.place less in
            absurd (omega (arith, more, below, o.at_place, p.at_place))
        | inr other ↦
            let order = searched.explored.order o.place p.place o.of p.of (omega (arith, other)) o.of_there p.of_there in
            omega (arith, order, no-rest o.of.vertex, no-rest p.of.vertex, cost, cost')
      ]

  least' : (j : ℕ) (entry : Flooded) (links : List Link) → slice_get flood j ≡ Some entry → AllowedTo mesh filter.areas from links entry.at
      → entry.cost ≤ cost_of (priced mesh filter) links
  least' j entry links is allowed =
      let o = comes-from j entry is in
      let cost : o.of.cost ≡ entry.cost = ap (λ (e : Flooded). e.cost) o.is in
      let at : entry.at ≡ polygon_of o.of.vertex = ap (λ (e : Flooded). e.at) (sym o.is) in
      let less = reached-least mesh filter from [] limits list seen sound there searched o.place o.of links o.of_there
      (subst (AllowedTo mesh filter.areas from links) at allowed) in
      omega (arith, less, cost)

  step-of : (place : ℕ) (e : ReachedVertex) → 0 < place → slice_get list place ≡ Some e → keep e ≡ true
      → IsFloodStep mesh filter flood (kept_before mesh filter.areas from list place) (flooded_as mesh filter.areas from list e)
  step-of place e some is held =
      let reached = searched.explored.tree.steps place e some is in
      let by = entered mesh filter from [] limits list seen sound there searched place e some is held reached in
      record {
        before = flooded_as mesh filter.areas from list reached.before;
        there = stands e.via reached.before reached.there by.on;
        earlier = before-more ReachedVertex keep list e.via reached.before reached.there by.on place reached.earlier;
        link = by.link;
        listed = by.listed;
        leaves = by.leaves;
        enters = by.enters;
        reaches = by.reaches;
        adds_up = by.adds_up;
      }

  steps' : (j : ℕ) (entry : Flooded) → 0 < j → slice_get flood j ≡ Some entry → IsFloodStep mesh filter flood j entry
  steps' j entry some is =
      let o = comes-from j entry is in
      let later : 0 < o.place =
      elim (cases_eq o.place 0) [
        | inl none ↦
            let first : j ≡ 0 = o.at_place ∙ ap (kept_before mesh filter.areas from list) none in
            absurd (omega (arith, first, some))
        | inr other ↦ omega (arith, other)
      ] in
      subst (IsFloodStep mesh filter flood j) o.is
      (subst (λ (n : ℕ). IsFloodStep mesh filter flood n (flooded_as mesh filter.areas from list o.of)) (sym o.at_place)
      (step-of o.place o.of later o.of_there o.held))

  all' : (polygon : PolyRef) (links : List Link) → AllowedTo mesh filter.areas from links polygon
      → cost_of (priced mesh filter) links ≤ limits.key → IsFlooded flood polygon
  all' polygon links allowed low =
      let made = allowed-steps mesh filter from [] limits list seen sound there searched links polygon allowed in
      let reached = by_end searched.explored.ended made.steps made.walks (omega (arith, made.cost, low)) in
      let on = end-on mesh filter.areas from from links polygon allowed.walks allowed.enters (start-on mesh filter.areas from) in
      let at : polygon_of reached.entry.vertex ≡ polygon = ap polygon_of reached.is in
      record {
        place = kept_before mesh filter.areas from list reached.place;
        entry = flooded_as mesh filter.areas from list reached.entry;
        there = stands reached.place reached.entry reached.there
            (ap (λ (p : PolyRef). leads_on mesh filter.areas from p) at ∙ on);
        is = at;
      }
    where
      by_end : HasEnded [] limits list seen → (steps : List Step)
          → graph.Walks (arcs mesh filter from [] limits list seen sound there searched) (vertex_of from) steps (vertex_of polygon)
          → graph.cost_of (arcs mesh filter from [] limits list seen sound there searched) steps ≤ limits.key
          → IsReached list (vertex_of polygon)
      by_end (inl all) steps walks below = searched.explored.within (vertex_of polygon) steps walks (inr all)
      by_end (inr (inl stopped)) steps walks below = absurd (contains_none stopped.stop stopped.stops_there)
      by_end (inr (inr (inl key))) steps walks below =
          searched.explored.within (vertex_of polygon) steps walks (inl (omega (arith, key, below, no-rest (vertex_of polygon))))
      by_end (inr (inr (inr count))) steps walks below =
          absurd (omega (arith, count, many, searched.explored.short, vertices-few mesh sound))

  pub flood-is : IsFlood mesh filter from limits.key flood
  flood-is = record {
    begins = stands 0 _ searched.explored.tree.begins (start-on mesh filter.areas from);
    once = once';
    rising = rising';
    each = each';
    least = least';
    steps = steps';
    all = all';
  }
