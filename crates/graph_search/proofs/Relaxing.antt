-- An arc of the vertex that was closed last is followed.
use Rattle.std.proofs.Common.{◌≡◌, ◌≢◌, ℕ, ◌+◌, ◌*◌, ◌<◌, ◌≤◌, ◌⊎◌, List, ◌∷◌, length, refl, sym, subst, ap, ◌∙◌, inl, inr, arith}
use Rattle.std.specs.Prelude.{Contains, All, ◌==◌, if◌then◌else◌}
use Rattle.std.specs.List.Sorted.{IsPermutation}
use Rattle.graph_search.specs.declared.radix_heap.HeapEntry.{HeapEntry}
use Rattle.std.proofs.lemmas.Bool.{cases_eq}
use Rattle.std.proofs.lemmas.Nat.{mul-le}
use Rattle.std.proofs.lemmas.List.Elements.{All-cons, All-weaker}
use Rattle.std.proofs.lemmas.List.Sorted.{All-permutation, Contains-permutation, length_permutation}
use Rattle.graph_search.specs.declared.graph.Vertex.{Vertex}
use Rattle.graph_search.specs.declared.graph.Arc.{Arc}
use Rattle.graph_search.specs.declared.graph.Step.{Step}
use Rattle.graph_search.specs.declared.visits.Visit.{Visit}
use Rattle.graph_search.specs.Walks.{no_arc, arc_of, IsSearchable}
use Rattle.graph_search.specs.Visited.{IsSeen, IsClosed, IsWritten}
use Rattle.graph_search.specs.Entries.{entry}
use Rattle.graph_search.specs.Searching.{IsStepTo, IsTree, IsEntry, IsKnown, IsClosing, IsRelaxed, AreRelaxed, AllRelaxed, AreBeingRelaxed, IsFollowing, KeepsRanks, sum_open}
use Rattle.graph_search.proofs.Members.{contains_first, contains_later, sum_no_more}
use Rattle.graph_search.proofs.Writing.{written_or_kept, same_or_not}

-- one arc more was followed
relaxed-more : (arcs : Vertex → List Arc) (at : Vertex → Visit) (vertex : Vertex) (place : ℕ) → AreRelaxed arcs at vertex place
    → IsRelaxed arcs at (record { from = vertex; place = place }) → AreRelaxed arcs at vertex (place + 1)
relaxed-more arcs at vertex place before here k below =
    elim (cases_eq k place) [
      | inl is ↦ subst (λ (n : ℕ). IsRelaxed arcs at (record { from = vertex; place = n })) (sym is) here
      | inr differ ↦ before k (omega (arith, below, differ))
    ]

-- all arcs of the vertex were followed
pub all-relaxed : (arcs : Vertex → List Arc) (at : Vertex → Visit) (vertex : Vertex) → AreBeingRelaxed arcs at vertex (length (arcs vertex)) → AllRelaxed arcs at
all-relaxed arcs at vertex relaxing = record { each = each' }
  where
    each' : (v : Vertex) → IsClosed (at v) → AreRelaxed arcs at v (length (arcs v))
    each' v is_closed =
        elim (same_or_not v vertex) [
          | inl is ↦ subst (λ (u : Vertex). AreRelaxed arcs at u (length (arcs u))) (sym is) relaxing.first
          | inr differ ↦ relaxing.others v differ is_closed
        ]

-- where no vertex was closed or opened, those not closed count the same
pub sum_open-kept : (count : Vertex → ℕ) (at at' : Vertex → Visit) (vertices : List Vertex) → KeepsRanks at at' → sum_open count at' vertices ≤ sum_open count at vertices
sum_open-kept count at at' vertices kept =
    sum_no_more (λ v. if (at v).rank == 0 then count v else 0) (λ v. if (at' v).rank == 0 then count v else 0) vertices (λ v. no_more v (kept.same v))
  where
    no_more : (v : Vertex) → (at' v).rank ≡ (at v).rank → (if (at' v).rank == 0 then count v else 0) ≤ (if (at v).rank == 0 then count v else 0)
    no_more v is =
        let same : (if (at' v).rank == 0 then count v else 0) ≡ (if (at v).rank == 0 then count v else 0) =
        ap (λ (n : ℕ). if n == 0 then count v else 0) is in
        omega (arith, same)

module _ (vertices : List Vertex) (arcs : Vertex → List Arc) (estimate : Vertex → ℕ) (heaviest : ℕ) (searchable : IsSearchable vertices arcs estimate heaviest)
    (vertex : Vertex) (member : Contains vertices vertex) (place : ℕ) (below : place < length (arcs vertex)) where
  -- the step along the arc, and where it leads
  abbrev step : Step
  step = record { from = vertex; place = place }

  abbrev arc : Arc
  arc = arc_of arcs step

  pub enters-member : Contains vertices arc.to
  enters-member = searchable.enters vertex member place no_arc below

  pub weight-no_more : arc.weight ≤ heaviest
  weight-no_more = searchable.weights vertex member place no_arc below

  estimate-no_more : estimate vertex ≤ arc.weight + estimate arc.to
  estimate-no_more = searchable.consistent vertex member place no_arc below

  module _ (at : Vertex → Visit) (limit : ℕ) (closing : IsClosing estimate heaviest at limit vertex) (fits : limit < 18446744073709551615) where
    -- the arc leads to no less cost than is known
    pub relaxing-no_less : AreBeingRelaxed arcs at vertex place → (at arc.to).cost ≤ (at vertex).cost + arc.weight
        → AreBeingRelaxed arcs at vertex (place + 1)
    relaxing-no_less relaxing no_less = record {
      others = relaxing.others;
      first = relaxed-more arcs at vertex place relaxing.first
          (record { seen = omega (arith, no_less, weight-no_more, closing.room, fits); no_less = no_less });
    }

    module _ (waiting waiting' : List HeapEntry) (closed : ℕ) (known : IsKnown vertices estimate at waiting limit closed)
        (better : (at vertex).cost + arc.weight < (at arc.to).cost) (at' : Vertex → Visit)
        (written : IsWritten at arc.to (record { cost = (at vertex).cost + arc.weight; estimate = estimate arc.to; rank = 0; last = step }) at')
        (waits : IsPermutation (entry ((at vertex).cost + arc.weight + estimate arc.to) arc.to ∷ waiting) waiting') where
      abbrev through : ℕ
      through = (at vertex).cost + arc.weight

      abbrev found : Visit
      found = record { cost = through; estimate = estimate arc.to; rank = 0; last = step }

      cases : (v : Vertex) → ((v ≡ arc.to) × (at' v ≡ found)) ⊎ ((v ≢ arc.to) × (at' v ≡ at v))
      cases v = written_or_kept at at' arc.to found written v

      -- the vertex entered is not closed: a closed one has no more cost and estimate than the one that the arc leaves
      unclosed : (at arc.to).rank ≡ 0
      unclosed =
          elim (cases_eq (at arc.to).rank 0) [
            | inl is ↦ is
            | inr some ↦
                let least = closing.greatest arc.to (omega (arith, some)) in
                absurd (omega (arith, least, estimate-no_more, better))
          ]

      same_rank : (v : Vertex) → (at' v).rank ≡ (at v).rank
      same_rank v =
          elim (cases v) [
            | inl here ↦ ap (λ (u : Visit). u.rank) here.1 ∙ sym (ap (λ (u : Vertex). (at u).rank) here.0 ∙ unclosed)
            | inr kept ↦ ap (λ (u : Visit). u.rank) kept.1
          ]

      -- nothing changes of a closed vertex
      kept-closed : (v : Vertex) → IsClosed (at v) → at' v ≡ at v
      kept-closed v is_closed =
          elim (cases v) [
            | inl here ↦
                let same : (at v).rank ≡ (at arc.to).rank = ap (λ (u : Vertex). (at u).rank) here.0 in
                absurd (omega (arith, is_closed, same, unclosed))
            | inr kept ↦ kept.1
          ]

      pub kept-cost : (v : Vertex) → IsClosed (at v) → (at' v).cost ≡ (at v).cost
      kept-cost v is_closed = ap (λ (u : Visit). u.cost) (kept-closed v is_closed)

      pub ranks-kept : KeepsRanks at at'
      ranks-kept = record { same = same_rank; costs = kept-cost }

      -- no cost rises
      cost_no_more : (v : Vertex) → (at' v).cost ≤ (at v).cost
      cost_no_more v =
          elim (cases v) [
            | inl here ↦
                let now : (at' v).cost ≡ through = ap (λ (u : Visit). u.cost) here.1 in
                let before : (at v).cost ≡ (at arc.to).cost = ap (λ (u : Vertex). (at u).cost) here.0 in
                omega (arith, now, before, better)
            | inr kept ↦
                let same : (at' v).cost ≡ (at v).cost = ap (λ (u : Visit). u.cost) kept.1 in
                omega (arith, same)
          ]

      within-limit : through ≤ limit
      within-limit = omega (arith, weight-no_more, closing.room)

      own-cost : (at' arc.to).cost ≡ through
      own-cost = ap (λ (u : Visit). u.cost) written.here

      pub known-better : IsKnown vertices estimate at' waiting' limit closed
      known-better = record {
        there = there';
        waits = waits';
        entries = All-permutation (λ e. IsEntry estimate at' e.key e.vertex) (entry (through + estimate arc.to) arc.to ∷ waiting) waiting' waits
            (All-cons (λ (e : HeapEntry). IsEntry estimate at' e.key e.vertex) (entry (through + estimate arc.to) arc.to) waiting
            (record { reached = omega (arith, own-cost, within-limit, fits); no_less = omega (arith, own-cost) })
            (All-weaker (λ e. IsEntry estimate at e.key e.vertex) (λ e. IsEntry estimate at' e.key e.vertex)
            (λ e held. record {
              reached = omega (arith, held.reached, cost_no_more e.vertex);
              no_less = omega (arith, held.no_less, cost_no_more e.vertex);
            }) waiting known.entries));
        order = order';
        within = within';
        estimates = estimates';
        ranks = λ v. omega (arith, same_rank v, known.ranks v);
      }
        where
          there' : (v : Vertex) → IsSeen (at' v) → Contains vertices v
          there' v seen =
              elim (cases v) [
                | inl here ↦ subst (Contains vertices) (sym here.0) enters-member
                | inr kept ↦ known.there v (subst (λ (u : Visit). IsSeen u) kept.1 seen)
              ]

          waits' : (v : Vertex) → IsSeen (at' v) → (at' v).rank ≡ 0 → Contains waiting' (entry ((at' v).cost + estimate v) v)
          waits' v seen is_open =
              Contains-permutation (entry (through + estimate arc.to) arc.to ∷ waiting) waiting' (entry ((at' v).cost + estimate v) v) waits
              (elim (cases v) [
                | inl here ↦
                    let same : entry (through + estimate arc.to) arc.to ≡ entry ((at' v).cost + estimate v) v =
                    ap (λ (u : Vertex). entry (through + estimate u) u) (sym here.0) ∙ ap (λ (u : Visit). entry (u.cost + estimate v) v) (sym here.1) in
                    subst (Contains (entry (through + estimate arc.to) arc.to ∷ waiting)) same (contains_first (entry (through + estimate arc.to) arc.to) waiting)
                | inr kept ↦
                    contains_later (entry (through + estimate arc.to) arc.to) (entry ((at' v).cost + estimate v) v) waiting
                    (subst (λ (u : Visit). Contains waiting (entry (u.cost + estimate v) v)) (sym kept.1)
                    (known.waits v (subst (λ (u : Visit). IsSeen u) kept.1 seen) (sym (same_rank v) ∙ is_open)))
              ])

          order' : (v : Vertex) → IsClosed (at' v) → All (λ (e : HeapEntry). (at' v).cost + estimate v ≤ e.key) waiting'
          order' v is_closed' =
              let is_closed : IsClosed (at v) = omega (arith, is_closed', same_rank v) in
              let same = kept-cost v is_closed in
              All-permutation (λ (e : HeapEntry). (at' v).cost + estimate v ≤ e.key) (entry (through + estimate arc.to) arc.to ∷ waiting) waiting' waits
              (All-cons (λ (e : HeapEntry). (at' v).cost + estimate v ≤ e.key) (entry (through + estimate arc.to) arc.to) waiting
              (omega (arith, same, closing.greatest v is_closed, estimate-no_more))
              (All-weaker (λ (e : HeapEntry). (at v).cost + estimate v ≤ e.key) (λ (e : HeapEntry). (at' v).cost + estimate v ≤ e.key)
              (λ e held. omega (arith, same, held)) waiting (known.order v is_closed)))

          within' : (v : Vertex) → IsSeen (at' v) → (at' v).cost ≤ limit
          within' v seen =
              elim (cases v) [
                | inl here ↦
                    let now : (at' v).cost ≡ through = ap (λ (u : Visit). u.cost) here.1 in
                    omega (arith, now, within-limit)
                | inr kept ↦
                    let same : (at' v).cost ≡ (at v).cost = ap (λ (u : Visit). u.cost) kept.1 in
                    omega (arith, same, known.within v (omega (arith, same, seen)))
              ]

          estimates' : (v : Vertex) → IsSeen (at' v) → (at' v).estimate ≡ estimate v
          estimates' v seen =
              elim (cases v) [
                | inl here ↦ ap (λ (u : Visit). u.estimate) here.1 ∙ ap estimate (sym here.0)
                | inr kept ↦ ap (λ (u : Visit). u.estimate) kept.1 ∙ known.estimates v (subst (λ (u : Visit). IsSeen u) kept.1 seen)
              ]

      pub closing-better : IsClosing estimate heaviest at' limit vertex
      closing-better = record {
        closed = omega (arith, same_rank vertex, closing.closed);
        greatest = greatest';
        room = omega (arith, kept-cost vertex closing.closed, closing.room);
      }
        where
          greatest' : (v : Vertex) → IsClosed (at' v) → (at' v).cost + estimate v ≤ (at' vertex).cost + estimate vertex
          greatest' v is_closed' =
              let is_closed : IsClosed (at v) = omega (arith, is_closed', same_rank v) in
              omega (arith, kept-cost v is_closed, kept-cost vertex closing.closed, closing.greatest v is_closed)

      pub relaxing-better : AreBeingRelaxed arcs at vertex place → AreBeingRelaxed arcs at' vertex (place + 1)
      relaxing-better relaxing = record {
        others = λ v differ is_closed' k there.
            let is_closed : IsClosed (at v) = omega (arith, is_closed', same_rank v) in
            still v k is_closed (relaxing.others v differ is_closed k there);
        first = relaxed-more arcs at' vertex place (λ k there. still vertex k closing.closed (relaxing.first k there))
            (record { seen = omega (arith, own-cost, within-limit, fits); no_less = omega (arith, own-cost, kept-cost vertex closing.closed) });
      }
        where
          still : (v : Vertex) (k : ℕ) → IsClosed (at v) → IsRelaxed arcs at (record { from = v; place = k }) → IsRelaxed arcs at' (record { from = v; place = k })
          still v k is_closed old =
              let fewer = cost_no_more (arc_of arcs (record { from = v; place = k })).to in
              record { seen = omega (arith, old.seen, fewer); no_less = omega (arith, old.no_less, fewer, kept-cost v is_closed) }

      pub tree-better : (start : Vertex) → IsTree arcs start at → IsTree arcs start at'
      tree-better start tree = record {
        begins = omega (arith, tree.begins, cost_no_more start);
        steps = steps';
        seen = λ v is_closed'.
            let is_closed : IsClosed (at v) = omega (arith, is_closed', same_rank v) in
            omega (arith, kept-cost v is_closed, tree.seen v is_closed);
      }
        where
          -- a step to a vertex of which nothing changed
          moved : (v : Vertex) (last : Step) → at' v ≡ at v → IsStepTo arcs at v last → IsStepTo arcs at' v last
          moved v last same held =
              let leaves' = kept-closed last.from held.leaves in
              let rank' : (at' last.from).rank ≡ (at last.from).rank = ap (λ (u : Visit). u.rank) leaves' in
              let cost' : (at' last.from).cost ≡ (at last.from).cost = ap (λ (u : Visit). u.cost) leaves' in
              let own : (at' v).cost ≡ (at v).cost = ap (λ (u : Visit). u.cost) same in
              record {
                there = held.there;
                enters = held.enters;
                adds_up = omega (arith, own, cost', held.adds_up);
                leaves = omega (arith, rank', held.leaves);
                earlier = λ is_closed'. earlier' v last rank' held is_closed';
              }
            where
              earlier' : (v : Vertex) (last : Step) → (at' last.from).rank ≡ (at last.from).rank → IsStepTo arcs at v last → IsClosed (at' v)
                  → (at' last.from).rank < (at' v).rank
              earlier' v last rank' held is_closed' =
                  let before = held.earlier (omega (arith, is_closed', same_rank v)) in
                  omega (arith, rank', same_rank v, before)

          -- the step that was just found
          now : IsStepTo arcs at' arc.to step
          now = record {
            there = below;
            enters = refl;
            adds_up = omega (arith, own-cost, kept-cost vertex closing.closed);
            leaves = omega (arith, same_rank vertex, closing.closed);
            earlier = λ is_closed'. absurd (omega (arith, is_closed', same_rank arc.to, unclosed));
          }

          steps' : (v : Vertex) → IsSeen (at' v) → (v ≡ start) ⊎ IsStepTo arcs at' v (at' v).last
          steps' v seen =
              elim (cases v) [
                | inl here ↦
                    inr (subst (λ (u : Vertex). IsStepTo arcs at' u (at' u).last) (sym here.0)
                    (subst (λ (last : Step). IsStepTo arcs at' arc.to last) (sym (ap (λ (u : Visit). u.last) written.here)) now))
                | inr kept ↦ by_step v kept.1 (tree.steps v (subst (λ (u : Visit). IsSeen u) kept.1 seen))
              ]
            where
              by_step : (v : Vertex) → at' v ≡ at v → (v ≡ start) ⊎ IsStepTo arcs at v (at v).last → (v ≡ start) ⊎ IsStepTo arcs at' v (at' v).last
              by_step v same (inl is) = inl is
              by_step v same (inr held) =
                  inr (subst (λ (last : Step). IsStepTo arcs at' v last) (sym (ap (λ (u : Visit). u.last) same)) (moved v (at v).last same held))

-- one arc after others
pub following-then : (vertices : List Vertex) (arcs : Vertex → List Arc) (estimate : Vertex → ℕ) (heaviest : ℕ) (vertex : Vertex) (closed : ℕ)
    (before : Vertex → Visit) (waited : List HeapEntry) (at : Vertex → Visit) (waiting : List HeapEntry) (at' : Vertex → Visit) (waiting' : List HeapEntry) (place : ℕ)
    → IsFollowing vertices arcs estimate heaviest vertex closed before waited at waiting place place
    → IsFollowing vertices arcs estimate heaviest vertex closed at waiting at' waiting' (place + 1) 1
    → IsFollowing vertices arcs estimate heaviest vertex closed before waited at' waiting' (place + 1) (place + 1)
following-then vertices arcs estimate heaviest vertex closed before waited at waiting at' waiting' place first next = record {
  known = next.known;
  closing = next.closing;
  relaxing = next.relaxing;
  tree = λ start tree. next.tree start (first.tree start tree);
  ranks = record {
    same = λ v. next.ranks.same v ∙ first.ranks.same v;
    costs = λ v is_closed. next.ranks.costs v (omega (arith, is_closed, first.ranks.same v)) ∙ first.ranks.costs v is_closed;
  };
  cost = next.cost ∙ first.cost;
  more = omega (arith, first.more, next.more);
}

-- none so far
pub following-none : (vertices : List Vertex) (arcs : Vertex → List Arc) (estimate : Vertex → ℕ) (heaviest : ℕ) (vertex : Vertex) (closed : ℕ)
    (at : Vertex → Visit) (waiting : List HeapEntry) → IsKnown vertices estimate at waiting (closed * heaviest) closed
    → IsClosing estimate heaviest at (closed * heaviest) vertex → AreBeingRelaxed arcs at vertex 0
    → IsFollowing vertices arcs estimate heaviest vertex closed at waiting at waiting 0 0
following-none vertices arcs estimate heaviest vertex closed at waiting known closing relaxing = record {
  known = known;
  closing = closing;
  relaxing = relaxing;
  tree = λ start tree. tree;
  ranks = record { same = λ v. refl; costs = λ v is_closed. refl };
  cost = refl;
  more = omega arith;
}

module _ (vertices : List Vertex) (arcs : Vertex → List Arc) (estimate : Vertex → ℕ) (heaviest : ℕ) (searchable : IsSearchable vertices arcs estimate heaviest)
    (vertex : Vertex) (member : Contains vertices vertex) (place : ℕ) (below : place < length (arcs vertex)) (to : Vertex)
    (enters : (arc_of arcs (record { from = vertex; place = place })).to ≡ to) (closed : ℕ) (few : closed ≤ length vertices) where
  abbrev own_step : Step
  own_step = record { from = vertex; place = place }

  pub end-member : Contains vertices to
  end-member = subst (Contains vertices) enters (enters-member vertices arcs estimate heaviest searchable vertex member place below)

  -- the estimate falls along the arc by no more than the arc's weight
  pub estimate-falls : estimate vertex ≤ (arc_of arcs own_step).weight + estimate to
  estimate-falls =
      subst (λ (v : Vertex). estimate vertex ≤ (arc_of arcs own_step).weight + estimate v) enters
      (estimate-no_more vertices arcs estimate heaviest searchable vertex member place below)

  -- no sum is too great
  limit-fits : closed * heaviest < 18446744073709551615
  limit-fits = omega (arith, mul-le closed heaviest (length vertices) heaviest few (omega arith), searchable.small vertex member)

  module _ (at : Vertex → Visit) (waiting : List HeapEntry) (known : IsKnown vertices estimate at waiting (closed * heaviest) closed)
      (closing : IsClosing estimate heaviest at (closed * heaviest) vertex) (relaxing : AreBeingRelaxed arcs at vertex place) where
    through-fits : (at vertex).cost + (arc_of arcs own_step).weight ≤ closed * heaviest
    through-fits = omega (arith, weight-no_more vertices arcs estimate heaviest searchable vertex member place below, closing.room)

    pub key-fits : (at vertex).cost + (arc_of arcs own_step).weight + estimate to < 18446744073709551616
    key-fits = omega (arith, through-fits, mul-le closed heaviest (length vertices) heaviest few (omega arith), searchable.small to end-member)

    -- the arc leads to no less cost than is known
    pub following-no_less : (at to).cost ≤ (at vertex).cost + (arc_of arcs own_step).weight
        → IsFollowing vertices arcs estimate heaviest vertex closed at waiting at waiting (place + 1) 1
    following-no_less no_less = record {
      known = known;
      closing = closing;
      relaxing =
          relaxing-no_less vertices arcs estimate heaviest searchable vertex member place below at (closed * heaviest) closing limit-fits relaxing
          (subst (λ (v : Vertex). (at v).cost ≤ (at vertex).cost + (arc_of arcs own_step).weight) (sym enters) no_less);
      tree = λ start tree. tree;
      ranks = record { same = λ v. refl; costs = λ v is_closed. refl };
      cost = refl;
      more = omega arith;
    }

    -- it leads to a closed vertex, which cost no more
    pub following-closed : IsClosed (at to) → IsFollowing vertices arcs estimate heaviest vertex closed at waiting at waiting (place + 1) 1
    following-closed is_closed = following-no_less (omega (arith, closing.greatest to is_closed, estimate-falls))

    -- or it leads to less
    module _ (at' : Vertex → Visit) (waiting' : List HeapEntry) where
      abbrev Better : Vertex → Type 0
      Better v =
          (at vertex).cost + (arc_of arcs own_step).weight < (at v).cost
          → IsWritten at v (record { cost = (at vertex).cost + (arc_of arcs own_step).weight; estimate = estimate v; rank = 0; last = own_step }) at'
          → IsPermutation (entry ((at vertex).cost + (arc_of arcs own_step).weight + estimate v) v ∷ waiting) waiting'
          → IsFollowing vertices arcs estimate heaviest vertex closed at waiting at' waiting' (place + 1) 1

      own-better : Better (arc_of arcs own_step).to
      own-better better written waits =
          let longer = length_permutation _ _ waits in
          record {
            known = known-better vertices arcs estimate heaviest searchable vertex member place below at (closed * heaviest) closing limit-fits
                waiting waiting' closed known better at' written waits;
            closing = closing-better vertices arcs estimate heaviest searchable vertex member place below at (closed * heaviest) closing limit-fits
                waiting waiting' closed known better at' written waits;
            relaxing = relaxing-better vertices arcs estimate heaviest searchable vertex member place below at (closed * heaviest) closing limit-fits
                waiting waiting' closed known better at' written waits relaxing;
            tree = tree-better vertices arcs estimate heaviest searchable vertex member place below at (closed * heaviest) closing limit-fits
                waiting waiting' closed known better at' written waits;
            ranks = ranks-kept vertices arcs estimate heaviest searchable vertex member place below at (closed * heaviest) closing limit-fits
                waiting waiting' closed known better at' written waits;
            cost = kept-cost vertices arcs estimate heaviest searchable vertex member place below at (closed * heaviest) closing limit-fits
                waiting waiting' closed known better at' written waits vertex closing.closed;
            more = omega (arith, longer);
          }

      pub following-better : Better to
      following-better = subst Better enters own-better
