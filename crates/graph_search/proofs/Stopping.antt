-- Where a search stops: no walk is cheaper, or there is none.
use Rattle.std.proofs.Common.{◌≡◌, ℕ, ◌+◌, ◌<◌, ◌≤◌, List, [], ◌∷◌, sym, subst, ap, inl, inr, arith}
use Rattle.std.specs.Prelude.{Contains, All}
use Rattle.graph_search.specs.declared.radix_heap.HeapEntry.{HeapEntry}
use Rattle.std.proofs.lemmas.Bool.{cases_eq}
use Rattle.std.proofs.lemmas.List.Elements.{All-contains}
use Rattle.std.proofs.lemmas.List.Sums.{sum_by-cons}
use Rattle.graph_search.specs.declared.graph.Vertex.{Vertex}
use Rattle.graph_search.specs.declared.graph.Arc.{Arc}
use Rattle.graph_search.specs.declared.graph.Step.{Step}
use Rattle.graph_search.specs.declared.visits.Visit.{Visit}
use Rattle.graph_search.specs.Walks.{no_arc, arc_of, Walks, cost_of, IsApart, IsSearchable}
use Rattle.graph_search.specs.Visited.{IsSeen, IsClosed}
use Rattle.graph_search.specs.Entries.{entry}
use Rattle.graph_search.specs.Searching.{IsKnown, AllRelaxed}
use Rattle.graph_search.proofs.Members.{contains_none}

-- what a walk costs, by its first step
pub cost_of-cons : (arcs : Vertex → List Arc) (step : Step) (steps : List Step) → cost_of arcs (step ∷ steps) ≡ (arc_of arcs step).weight + cost_of arcs steps
cost_of-cons arcs step steps = sum_by-cons (λ (s : Step). (arc_of arcs s).weight) step steps

module _ (vertices : List Vertex) (arcs : Vertex → List Arc) (estimate : Vertex → ℕ) (heaviest : ℕ) (searchable : IsSearchable vertices arcs estimate heaviest) where
  -- the estimate falls along a walk by no more than the walk costs
  pub estimate_falls : (steps : List Step) (v to : Vertex) → Contains vertices v → Walks arcs v steps to → estimate v ≤ cost_of arcs steps + estimate to
  estimate_falls [] v to member walk =
      let same : estimate v ≡ estimate to = ap estimate walk in
      omega (arith, same)
  estimate_falls (step ∷ steps) v to member walk =
      let member' : Contains vertices step.from = subst (Contains vertices) (sym walk.0) member in
      let same : estimate step.from ≡ estimate v = ap estimate walk.0 in
      let first = searchable.consistent step.from member' step.place no_arc walk.1 in
      let rest = estimate_falls steps (arc_of arcs step).to to (searchable.enters step.from member' step.place no_arc walk.1) walk.2 in
      omega (arith, same, first, rest, cost_of-cons arcs step steps)

  module _ (at : Vertex → Visit) (waiting : List HeapEntry) (limit closed : ℕ) (known : IsKnown vertices estimate at waiting limit closed) (relaxed : AllRelaxed arcs at) (to : Vertex) where
    -- where the cost and estimate of a vertex are the least key, no walk to it is cheaper
    pub none_cheaper : (key : ℕ) → key ≡ (at to).cost + estimate to → All (λ (e : HeapEntry). key ≤ e.key) waiting
        → (steps : List Step) (v : Vertex) (n : ℕ) → IsSeen (at v) → (at v).cost ≤ n → Walks arcs v steps to → (at to).cost ≤ n + cost_of arcs steps
    none_cheaper key is least [] v n seen no_more walk =
        let same : (at v).cost ≡ (at to).cost = ap (λ (u : Vertex). (at u).cost) walk in
        omega (arith, same, no_more)
    none_cheaper key is least (step ∷ steps) v n seen no_more walk =
        elim (cases_eq (at v).rank 0) [
          | inl unclosed ↦
              let own = All-contains (λ (e : HeapEntry). key ≤ e.key) waiting (entry ((at v).cost + estimate v) v) least (known.waits v seen unclosed) in
              let falls = estimate_falls (step ∷ steps) v to (known.there v seen) walk in
              omega (arith, own, falls, is, no_more)
          | inr some ↦
              let same : (at step.from).rank ≡ (at v).rank = ap (λ (u : Vertex). (at u).rank) walk.0 in
              let cost : (at step.from).cost ≡ (at v).cost = ap (λ (u : Vertex). (at u).cost) walk.0 in
              let first = relaxed.each step.from (omega (arith, some, same)) step.place walk.1 in
              let rest = none_cheaper key is least steps (arc_of arcs step).to (n + (arc_of arcs step).weight) first.seen
              (omega (arith, first.no_less, cost, no_more)) walk.2 in
              omega (arith, rest, cost_of-cons arcs step steps)
        ]

    -- where no key that waits is less than a number, a vertex with a walk whose cost and estimate are less is closed
    pub closed_within : (key : ℕ) → All (λ (e : HeapEntry). key ≤ e.key) waiting
        → (steps : List Step) (v : Vertex) (n : ℕ) → IsSeen (at v) → (at v).cost ≤ n → Walks arcs v steps to → n + cost_of arcs steps + estimate to < key → IsClosed (at to)
    closed_within key least [] v n seen no_more walk below =
        elim (cases_eq (at v).rank 0) [
          | inl unclosed ↦
              let own = All-contains (λ (e : HeapEntry). key ≤ e.key) waiting (entry ((at v).cost + estimate v) v) least (known.waits v seen unclosed) in
              let falls = estimate_falls [] v to (known.there v seen) walk in
              absurd (omega (arith, own, falls, no_more, below))
          | inr some ↦ subst (λ (u : Vertex). IsClosed (at u)) walk (omega (arith, some))
        ]
    closed_within key least (step ∷ steps) v n seen no_more walk below =
        elim (cases_eq (at v).rank 0) [
          | inl unclosed ↦
              let own = All-contains (λ (e : HeapEntry). key ≤ e.key) waiting (entry ((at v).cost + estimate v) v) least (known.waits v seen unclosed) in
              let falls = estimate_falls (step ∷ steps) v to (known.there v seen) walk in
              absurd (omega (arith, own, falls, no_more, below))
          | inr some ↦
              let same : (at step.from).rank ≡ (at v).rank = ap (λ (u : Vertex). (at u).rank) walk.0 in
              let cost : (at step.from).cost ≡ (at v).cost = ap (λ (u : Vertex). (at u).cost) walk.0 in
              let first = relaxed.each step.from (omega (arith, some, same)) step.place walk.1 in
              closed_within key least steps (arc_of arcs step).to (n + (arc_of arcs step).weight) first.seen (omega (arith, first.no_less, cost, no_more)) walk.2
              (omega (arith, below, cost_of-cons arcs step steps))
        ]

  -- where no vertex waits, a walk from a vertex seen leads to closed ones alone
  pub none_apart : (at : Vertex → Visit) (limit closed : ℕ) → IsKnown vertices estimate at [] limit closed → AllRelaxed arcs at → (to : Vertex) → (at to).rank ≡ 0
      → (v : Vertex) → IsSeen (at v) → IsApart arcs v to
  none_apart at limit closed known relaxed to unclosed v seen steps walk = no_walk steps v seen walk
    where
      some_rank : (u : Vertex) → IsSeen (at u) → IsClosed (at u)
      some_rank u seen =
          elim (cases_eq (at u).rank 0) [
            | inl none ↦ absurd (contains_none (entry ((at u).cost + estimate u) u) (known.waits u seen none))
            | inr some ↦ omega (arith, some)
          ]

      no_walk : (steps : List Step) (u : Vertex) → IsSeen (at u) → Walks arcs u steps to → ⊥
      no_walk [] u seen walk =
          let same : (at u).rank ≡ (at to).rank = ap (λ (w : Vertex). (at w).rank) walk in
          omega (arith, same, unclosed, some_rank u seen)
      no_walk (step ∷ steps) u seen walk =
          let same : (at step.from).rank ≡ (at u).rank = ap (λ (w : Vertex). (at w).rank) walk.0 in
          let first = relaxed.each step.from (omega (arith, some_rank u seen, same)) step.place walk.1 in
          no_walk steps (arc_of arcs step).to first.seen walk.2
