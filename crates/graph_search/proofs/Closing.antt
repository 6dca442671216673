-- An entry is taken: either its vertex was closed before, or it is closed now.
use Rattle.std.proofs.Common.{◌≡◌, ◌≢◌, ℕ, ◌+◌, ◌<◌, ◌≤◌, ◌⊎◌, List, ◌∷◌, length, sym, subst, ap, ◌∙◌, inl, inr, arith}
use Rattle.std.specs.Prelude.{Contains, All, ◌==◌, if◌then◌else◌}
use Rattle.std.specs.List.Sorted.{IsPermutation}
use Rattle.graph_search.specs.declared.radix_heap.HeapEntry.{HeapEntry}
use Rattle.std.proofs.lemmas.List.Elements.{All-head, All-tail, All-weaker, All-contains}
use Rattle.std.proofs.lemmas.List.Sorted.{All-permutation, Contains-permutation}
use Rattle.graph_search.specs.declared.graph.Vertex.{Vertex}
use Rattle.graph_search.specs.declared.graph.Arc.{Arc}
use Rattle.graph_search.specs.declared.graph.Step.{Step}
use Rattle.graph_search.specs.declared.visits.Visit.{Visit}
use Rattle.graph_search.specs.Walks.{arc_of}
use Rattle.graph_search.specs.Visited.{IsSeen, IsClosed, IsWritten}
use Rattle.graph_search.specs.Entries.{entry}
use Rattle.graph_search.specs.Searching.{IsStepTo, IsTree, IsEntry, IsKnown, IsClosing, IsRelaxed, AreRelaxed, AllRelaxed, AreBeingRelaxed, closed_as, sum_open}
use Rattle.graph_search.proofs.Members.{contains_cases, sum_falls, counted, not_counted}
use Rattle.graph_search.proofs.Writing.{written_or_kept}

module _ (vertices : List Vertex) (estimate : Vertex → ℕ) (at : Vertex → Visit) (waiting rest : List HeapEntry) (limit closed key : ℕ) (vertex : Vertex)
    (known : IsKnown vertices estimate at waiting limit closed) (taken : IsPermutation waiting (entry key vertex ∷ rest)) where
  -- another vertex that waited still waits
  still_waits : (k : ℕ) (v : Vertex) → v ≢ vertex → Contains waiting (entry k v) → Contains rest (entry k v)
  still_waits k v differ held =
      elim (contains_cases (entry key vertex) (entry k v) rest (Contains-permutation waiting (entry key vertex ∷ rest) (entry k v) taken held)) [
        | inl is ↦ absurd (differ (sym (ap (λ (e : HeapEntry). e.vertex) is)))
        | inr later ↦ later
      ]

  -- what holds of all entries holds of the one taken and of the rest
  of_first : (P : HeapEntry → Type 0) → All P waiting → P (entry key vertex)
  of_first P all = All-head P (entry key vertex) rest (All-permutation P waiting (entry key vertex ∷ rest) taken all)

  of_rest : (P : HeapEntry → Type 0) → All P waiting → All P rest
  of_rest P all = All-tail P (entry key vertex) rest (All-permutation P waiting (entry key vertex ∷ rest) taken all)

  -- an entry of a closed vertex is dropped
  pub known-dropped : IsClosed (at vertex) → IsKnown vertices estimate at rest limit closed
  known-dropped done = record {
    there = known.there;
    waits = λ v seen unclosed. still_waits ((at v).cost + estimate v) v (λ is. closed_not_open v is unclosed) (known.waits v seen unclosed);
    entries = of_rest (λ e. IsEntry estimate at e.key e.vertex) known.entries;
    order = λ v is_closed. of_rest (λ e. (at v).cost + estimate v ≤ e.key) (known.order v is_closed);
    within = known.within;
    estimates = known.estimates;
    ranks = known.ranks;
  }
    where
      closed_not_open : (v : Vertex) → v ≡ vertex → (at v).rank ≡ 0 → ⊥
      closed_not_open v is unclosed =
          let same : (at v).rank ≡ (at vertex).rank = ap (λ (u : Vertex). (at u).rank) is in
          omega (arith, done, unclosed, same)

  module _ (least : All (λ (e : HeapEntry). key ≤ e.key) waiting) (unclosed : (at vertex).rank ≡ 0) where
    -- the vertex of the least entry was seen, and the key is its cost and estimate
    pub first_seen : IsSeen (at vertex)
    first_seen = (of_first (λ e. IsEntry estimate at e.key e.vertex) known.entries).reached

    pub first_key : key ≡ (at vertex).cost + estimate vertex
    first_key =
        let no_less = (of_first (λ e. IsEntry estimate at e.key e.vertex) known.entries).no_less in
        let own = All-contains (λ (e : HeapEntry). key ≤ e.key) waiting (entry ((at vertex).cost + estimate vertex) vertex) least (known.waits vertex first_seen unclosed) in
        omega (arith, no_less, own)

    module _ (at' : Vertex → Visit) (written : IsWritten at vertex (closed_as (closed + 1) (at vertex)) at') where
      -- what changes: the rank of the vertex, and nothing else
      same_cost : (v : Vertex) → (at' v).cost ≡ (at v).cost
      same_cost v =
          elim (written_or_kept at at' vertex (closed_as (closed + 1) (at vertex)) written v) [
            | inl here ↦ ap (λ (u : Visit). u.cost) here.1 ∙ ap (λ (u : Vertex). (at u).cost) (sym here.0)
            | inr kept ↦ ap (λ (u : Visit). u.cost) kept.1
          ]

      same_estimate : (v : Vertex) → (at' v).estimate ≡ (at v).estimate
      same_estimate v =
          elim (written_or_kept at at' vertex (closed_as (closed + 1) (at vertex)) written v) [
            | inl here ↦ ap (λ (u : Visit). u.estimate) here.1 ∙ ap (λ (u : Vertex). (at u).estimate) (sym here.0)
            | inr kept ↦ ap (λ (u : Visit). u.estimate) kept.1
          ]

      same_last : (v : Vertex) → (at' v).last ≡ (at v).last
      same_last v =
          elim (written_or_kept at at' vertex (closed_as (closed + 1) (at vertex)) written v) [
            | inl here ↦ ap (λ (u : Visit). u.last) here.1 ∙ ap (λ (u : Vertex). (at u).last) (sym here.0)
            | inr kept ↦ ap (λ (u : Visit). u.last) kept.1
          ]

      own_rank : (at' vertex).rank ≡ closed + 1
      own_rank = ap (λ (u : Visit). u.rank) written.here

      rank_cases : (v : Vertex) → ((v ≡ vertex) × ((at' v).rank ≡ closed + 1)) ⊎ ((v ≢ vertex) × ((at' v).rank ≡ (at v).rank))
      rank_cases v =
          elim (written_or_kept at at' vertex (closed_as (closed + 1) (at vertex)) written v) [
            | inl here ↦ inl (here.0, ap (λ (u : Visit). u.rank) here.1)
            | inr kept ↦ inr (kept.0, ap (λ (u : Visit). u.rank) kept.1)
          ]

      -- what was closed before has its rank
      kept_rank : (v : Vertex) → IsClosed (at v) → (at' v).rank ≡ (at v).rank
      kept_rank v is_closed =
          elim (rank_cases v) [
            | inl here ↦
                let same : (at v).rank ≡ (at vertex).rank = ap (λ (u : Vertex). (at u).rank) here.0 in
                absurd (omega (arith, is_closed, same, unclosed))
            | inr kept ↦ kept.1
          ]

      -- each closed vertex has no more cost and estimate than the key
      no_more : (v : Vertex) → IsClosed (at' v) → (at' v).cost + estimate v ≤ key
      no_more v is_closed =
          elim (rank_cases v) [
            | inl here ↦
                let same : (at v).cost + estimate v ≡ (at vertex).cost + estimate vertex = ap (λ (u : Vertex). (at u).cost + estimate u) here.0 in
                omega (arith, first_key, same, same_cost v)
            | inr kept ↦
                let less = of_first (λ e. (at v).cost + estimate v ≤ e.key) (known.order v (omega (arith, is_closed, kept.1))) in
                omega (arith, less, same_cost v)
          ]

      pub known-closed : (heaviest : ℕ) → IsKnown vertices estimate at' rest (limit + heaviest) (closed + 1)
      known-closed heaviest = record {
        there = λ v seen. known.there v (omega (arith, seen, same_cost v));
        waits = waits';
        entries = All-weaker (λ e. IsEntry estimate at e.key e.vertex) (λ e. IsEntry estimate at' e.key e.vertex)
            (λ e held. record { reached = omega (arith, held.reached, same_cost e.vertex); no_less = omega (arith, held.no_less, same_cost e.vertex) })
            rest (of_rest (λ e. IsEntry estimate at e.key e.vertex) known.entries);
        order = λ v is_closed. All-weaker (λ (e : HeapEntry). key ≤ e.key) (λ e. (at' v).cost + estimate v ≤ e.key)
            (λ e held. omega (arith, held, no_more v is_closed)) rest (of_rest (λ e. key ≤ e.key) least);
        within = λ v seen. omega (arith, same_cost v, known.within v (omega (arith, seen, same_cost v)));
        estimates = λ v seen. same_estimate v ∙ known.estimates v (omega (arith, seen, same_cost v));
        ranks = ranks';
      }
        where
          waits' : (v : Vertex) → IsSeen (at' v) → (at' v).rank ≡ 0 → Contains rest (entry ((at' v).cost + estimate v) v)
          waits' v seen is_open =
              elim (rank_cases v) [
                | inl here ↦ absurd (omega (arith, here.1, is_open))
                | inr kept ↦
                    subst (λ (n : ℕ). Contains rest (entry (n + estimate v) v)) (sym (same_cost v))
                    (still_waits ((at v).cost + estimate v) v kept.0 (known.waits v (omega (arith, seen, same_cost v)) (omega (arith, is_open, kept.1))))
              ]

          ranks' : (v : Vertex) → (at' v).rank ≤ closed + 1
          ranks' v = elim (rank_cases v) [ inl here ↦ omega (arith, here.1) | inr kept ↦ omega (arith, kept.1, known.ranks v) ]

      pub closing : (heaviest : ℕ) → IsClosing estimate heaviest at' (limit + heaviest) vertex
      closing heaviest = record {
        closed = omega (arith, own_rank);
        greatest = λ v is_closed. omega (arith, no_more v is_closed, first_key, same_cost vertex);
        room = omega (arith, same_cost vertex, known.within vertex first_seen);
      }

      pub tree-closed : (arcs : Vertex → List Arc) (start : Vertex) → IsTree arcs start at → IsTree arcs start at'
      tree-closed arcs start tree = record { begins = same_cost start ∙ tree.begins; steps = steps'; seen = seen' }
        where
          steps' : (v : Vertex) → IsSeen (at' v) → (v ≡ start) ⊎ IsStepTo arcs at' v (at' v).last
          steps' v seen =
              elim (tree.steps v (omega (arith, seen, same_cost v))) [
                | inl is ↦ inl is
                | inr step ↦ inr (subst (λ (last : Step). IsStepTo arcs at' v last) (sym (same_last v)) (moved (at v).last step))
              ]
            where
              earlier' : (step : Step) → IsStepTo arcs at v step → IsClosed (at' v) → (at' step.from).rank < (at' v).rank
              earlier' step held is_closed =
                  let same = kept_rank step.from held.leaves in
                  elim (rank_cases v) [
                    | inl here ↦ omega (arith, same, here.1, known.ranks step.from)
                    | inr kept ↦ omega (arith, same, kept.1, held.earlier (omega (arith, is_closed, kept.1)))
                  ]

              moved : (step : Step) → IsStepTo arcs at v step → IsStepTo arcs at' v step
              moved step held = record {
                there = held.there;
                enters = held.enters;
                adds_up = omega (arith, same_cost v, same_cost step.from, held.adds_up);
                leaves = omega (arith, kept_rank step.from held.leaves, held.leaves);
                earlier = earlier' step held;
              }

          seen' : (v : Vertex) → IsClosed (at' v) → IsSeen (at' v)
          seen' v is_closed =
              elim (rank_cases v) [
                | inl here ↦
                    let same : (at v).cost ≡ (at vertex).cost = ap (λ (u : Vertex). (at u).cost) here.0 in
                    omega (arith, first_seen, same, same_cost v)
                | inr kept ↦ omega (arith, same_cost v, tree.seen v (omega (arith, is_closed, kept.1)))
              ]

      pub relaxing : (arcs : Vertex → List Arc) → AllRelaxed arcs at → AreBeingRelaxed arcs at' vertex 0
      relaxing arcs relaxed = record { others = others'; first = λ place below. absurd (omega (arith, below)) }
        where
          others' : (v : Vertex) → v ≢ vertex → IsClosed (at' v) → AreRelaxed arcs at' v (length (arcs v))
          others' v differ is_closed place below =
              let step : Step = record { from = v; place = place } in
              let old : IsRelaxed arcs at step = elim (rank_cases v) [
                | inl here ↦ absurd (differ here.0)
                | inr kept ↦ relaxed.each v (omega (arith, is_closed, kept.1)) place below
              ] in
              record {
                seen = omega (arith, old.seen, same_cost (arc_of arcs step).to);
                no_less = omega (arith, old.no_less, same_cost (arc_of arcs step).to, same_cost v);
              }

      -- the vertex no longer counts among those not closed
      pub sum_open-closed : (count : Vertex → ℕ) → sum_open count at' vertices + count vertex ≤ sum_open count at vertices
      sum_open-closed count =
          sum_falls (λ v. if (at v).rank == 0 then count v else 0) (λ v. if (at' v).rank == 0 then count v else 0) (count vertex) vertices vertex
          no_more_open one_less (known.there vertex first_seen)
        where
          one_less : (if (at' vertex).rank == 0 then count vertex else 0) + count vertex ≤ (if (at vertex).rank == 0 then count vertex else 0)
          one_less =
              let before = counted (at vertex).rank (count vertex) unclosed in
              let after = not_counted (at' vertex).rank (count vertex) (omega (arith, own_rank)) in
              omega (arith, before, after)

          no_more_open : (v : Vertex) → (if (at' v).rank == 0 then count v else 0) ≤ (if (at v).rank == 0 then count v else 0)
          no_more_open v =
              elim (rank_cases v) [
                | inl here ↦
                    let after = not_counted (at' v).rank (count v) (omega (arith, here.1)) in
                    omega (arith, after)
                | inr kept ↦
                    let same : (if (at' v).rank == 0 then count v else 0) ≡ (if (at v).rank == 0 then count v else 0) =
                    ap (λ (n : ℕ). if n == 0 then count v else 0) kept.1 in
                    omega (arith, same)
              ]
