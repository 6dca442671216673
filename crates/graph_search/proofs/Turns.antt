-- The turns of a search, whole.
use Rattle.std.proofs.Common.{◌≡◌, ◌≢◌, ℕ, ◌+◌, ◌*◌, ◌<◌, ◌≤◌, List, [], ◌∷◌, length, get_or, refl, sym, subst, ap, ◌∙◌, inl, inr, arith}
use Rattle.std.specs.Prelude.{Contains, All, ◌==◌, if◌then◌else◌, Option, Some, None, IfNone, IfSome}
use Rattle.std.specs.List.Sorted.{IsPermutation}
use Rattle.graph_search.specs.declared.radix_heap.HeapEntry.{HeapEntry}
use Rattle.std.proofs.lemmas.Nat.{mul-le}
use Rattle.std.proofs.lemmas.Bool.{cases_eq}
use Rattle.std.proofs.lemmas.List.Elements.{All-nil, All-cons}
use Rattle.std.proofs.lemmas.List.Sums.{sum_by-le}
use Rattle.std.proofs.lemmas.List.Sorted.{All-permutation, Contains-permutation, length_permutation}
use Rattle.std.proofs.Math.Nat.{suc-mul}
use Rattle.graph_search.specs.declared.graph.Vertex.{Vertex}
use Rattle.graph_search.specs.declared.graph.Arc.{Arc}
use Rattle.graph_search.specs.declared.graph.Step.{Step}
use Rattle.graph_search.specs.declared.graph.Walk.{Walk}
use Rattle.graph_search.specs.declared.visits.Visit.{Visit}
use Rattle.graph_search.specs.Walks.{Walks, cost_of, IsCheapest, IsApart, IsSearchable}
use Rattle.graph_search.specs.Visited.{IsSeen, IsClosed, IsWritten}
use Rattle.graph_search.specs.Entries.{entry}
use Rattle.graph_search.specs.Searching.{IsTree, IsEntry, IsKnown, IsClosing, AllRelaxed, AreBeingRelaxed, KeepsRanks, IsBegun, IsWalkTo, closed_as, sum_open}
use Rattle.graph_search.proofs.Members.{contains_first, sum_falls, counted, not_counted}
use Rattle.graph_search.proofs.Closing.{first_seen, first_key, known-closed, closing, tree-closed, relaxing, sum_open-closed, known-dropped}
use Rattle.graph_search.proofs.Relaxing.{sum_open-kept}
use Rattle.graph_search.proofs.Stopping.{none_cheaper, none_apart}

-- where an option is no `Some`, what holds of `None` holds
pub none_left : {X : Type 0} (found : Option X) (P : Type 0) → ((x : X) → found ≡ Some x → ⊥) → IfNone found P → P
none_left None P no_some held = held
none_left (Some x) P no_some held = absurd (no_some x refl)

-- what is said of the entry that was taken
pub taken_of : (found : Option HeapEntry) (first : HeapEntry) (old new : List HeapEntry) → found ≡ Some first → IfSome found (λ e. IsPermutation old (e ∷ new)) → IsPermutation old (first ∷ new)
taken_of found first old new is held = subst (λ (f : Option HeapEntry). IfSome f (λ e. IsPermutation old (e ∷ new))) is held

pub least_of : (found : Option HeapEntry) (first : HeapEntry) (old : List HeapEntry) → found ≡ Some first → IfSome found (λ e. All (λ (other : HeapEntry). e.key ≤ other.key) old)
    → All (λ (other : HeapEntry). first.key ≤ other.key) old
least_of found first old is held = subst (λ (f : Option HeapEntry). IfSome f (λ e. All (λ (other : HeapEntry). e.key ≤ other.key) old)) is held

pub last_of : (found : Option HeapEntry) (first : HeapEntry) (last : ℕ) → found ≡ Some first → IfSome found (λ e. last ≡ e.key) → last ≡ first.key
last_of found first last is held = subst (λ (f : Option HeapEntry). IfSome f (λ e. last ≡ e.key)) is held

-- what holds between two turns: the tree, what is known, and no more vertices are closed than there are
pub record IsBetween (vertices : List Vertex) (arcs : Vertex → List Arc) (estimate : Vertex → ℕ) (heaviest : ℕ) (start : Vertex)
    (at : Vertex → Visit) (waiting : List HeapEntry) (closed : ℕ) : Type 0 where
  pub tree : IsTree arcs start at
  pub known : IsKnown vertices estimate at waiting (closed * heaviest) closed
  pub relaxed : AllRelaxed arcs at
  pub few : closed + sum_open (λ v. 1) at vertices ≤ length vertices

-- how much is left to do at most: entries, and arcs of vertices not closed
abbrev pub work : List Vertex → (Vertex → List Arc) → (Vertex → Visit) → List HeapEntry → ℕ
work vertices arcs at waiting = length waiting + sum_open (λ v. length (arcs v)) at vertices

-- no number is counted as more than 1
one : (n : ℕ) → (if n == 0 then 1 else 0) ≤ 1
one n =
    elim (cases_eq n 0) [
      | inl is ↦
          let all = counted n 1 is in
          omega (arith, all)
      | inr some ↦
          let none = not_counted n 1 (omega (arith, some)) in
          omega (arith, none)
    ]

-- at the beginning
pub between-begun : (vertices : List Vertex) (arcs : Vertex → List Arc) (estimate : Vertex → ℕ) (heaviest : ℕ) (start : Vertex) (at : Vertex → Visit)
    (waiting : List HeapEntry) (key closed : ℕ) → Contains vertices start → IsBegun start key at → key ≡ estimate start → IsPermutation (entry key start ∷ []) waiting → closed ≡ 0
    → IsBetween vertices arcs estimate heaviest start at waiting closed
between-begun vertices arcs estimate heaviest start at waiting key closed member begun is waits none = record {
  tree = record {
    begins = begun.begins;
    steps = λ v seen. inl (begun.only v seen);
    seen = λ v is_closed. absurd (omega (arith, is_closed, begun.unclosed v));
  };
  known = record {
    there = λ v seen. subst (Contains vertices) (sym (begun.only v seen)) member;
    waits = λ v seen is_open. Contains-permutation (entry key start ∷ []) waiting (entry ((at v).cost + estimate v) v) waits (own v (begun.only v seen));
    entries = All-permutation (λ e. IsEntry estimate at e.key e.vertex) (entry key start ∷ []) waiting waits
        (All-cons (λ (e : HeapEntry). IsEntry estimate at e.key e.vertex) (entry key start) []
        (record { reached = omega (arith, begun.begins); no_less = omega (arith, begun.begins, is) }) (All-nil (λ (e : HeapEntry). IsEntry estimate at e.key e.vertex)));
    order = λ v is_closed. absurd (omega (arith, is_closed, begun.unclosed v));
    within = λ v seen.
        let same : (at v).cost ≡ (at start).cost = ap (λ (u : Vertex). (at u).cost) (begun.only v seen) in
        omega (arith, same, begun.begins);
    estimates = λ v seen. ap (λ (u : Vertex). (at u).estimate) (begun.only v seen) ∙ begun.estimate ∙ is ∙ ap estimate (sym (begun.only v seen));
    ranks = λ v. omega (arith, begun.unclosed v);
  };
  relaxed = record { each = λ v is_closed. absurd (omega (arith, is_closed, begun.unclosed v)) };
  few =
      let ones = sum_by-le (λ (v : Vertex). if (at v).rank == 0 then 1 else 0) 1 vertices (λ k d below. one (at (get_or vertices k d)).rank) in
      omega (arith, ones, none);
}
  where
    own : (v : Vertex) → v ≡ start → Contains (entry key start ∷ []) (entry ((at v).cost + estimate v) v)
    own v same =
        let keys : key ≡ (at start).cost + estimate start = omega (arith, is, begun.begins) in
        let same' : entry key start ≡ entry ((at v).cost + estimate v) v =
        ap (λ (k : ℕ). entry k start) keys ∙ ap (λ (u : Vertex). entry ((at u).cost + estimate u) u) (sym same) in
        subst (Contains (entry key start ∷ [])) same' (contains_first (entry key start) [])

module _ (vertices : List Vertex) (arcs : Vertex → List Arc) (estimate : Vertex → ℕ) (heaviest : ℕ) (searchable : IsSearchable vertices arcs estimate heaviest)
    (start : Vertex) (at : Vertex → Visit) (waiting : List HeapEntry) (closed : ℕ) (between : IsBetween vertices arcs estimate heaviest start at waiting closed) where
  -- the start was seen
  start-seen : IsSeen (at start)
  start-seen = omega (arith, between.tree.begins)

  -- where no vertex waits, there is no walk
  pub apart : (to : Vertex) → (at to).rank ≡ 0 → waiting ≡ [] → IsApart arcs start to
  apart to goal none =
      none_apart vertices arcs estimate heaviest searchable at (closed * heaviest) closed
      (subst (λ (entries : List HeapEntry). IsKnown vertices estimate at entries (closed * heaviest) closed) none between.known) between.relaxed to goal start start-seen

  module _ (key : ℕ) (vertex : Vertex) (rest : List HeapEntry) (taken : IsPermutation waiting (entry key vertex ∷ rest)) where
    one_fewer : length waiting ≡ length rest + 1
    one_fewer =
        let same = length_permutation waiting (entry key vertex ∷ rest) taken in
        omega (arith, same)

    -- an entry of a vertex closed before is dropped
    pub between-dropped : IsClosed (at vertex) → IsBetween vertices arcs estimate heaviest start at rest closed
    between-dropped is_closed = record {
      tree = between.tree;
      known = known-dropped vertices estimate at waiting rest (closed * heaviest) closed key vertex between.known taken is_closed;
      relaxed = between.relaxed;
      few = between.few;
    }

    pub work-dropped : work vertices arcs at rest < work vertices arcs at waiting
    work-dropped = omega (arith, one_fewer)

    module _ (least : All (λ (e : HeapEntry). key ≤ e.key) waiting) (unclosed : (at vertex).rank ≡ 0) where
      vertex-seen : IsSeen (at vertex)
      vertex-seen = first_seen vertices estimate at waiting rest (closed * heaviest) closed key vertex between.known taken least unclosed

      -- the key is what the vertex costs, and its estimate
      pub vertex-key : key ≡ (at vertex).cost + estimate vertex
      vertex-key = first_key vertices estimate at waiting rest (closed * heaviest) closed key vertex between.known taken least unclosed

      pub vertex-member : Contains vertices vertex
      vertex-member = between.known.there vertex vertex-seen

      -- there are more vertices than were closed
      pub closed-fewer : closed + 1 ≤ length vertices
      closed-fewer =
          let some = sum_falls (λ v. if (at v).rank == 0 then 1 else 0) (λ v. 0) 1 vertices vertex (λ v. omega arith) (omega (arith, counted (at vertex).rank 1 unclosed)) vertex-member in
          omega (arith, some, between.few)

      -- where the vertex is the goal, its cost is that of the cheapest walks
      pub cheapest : (to : Vertex) → vertex ≡ to → (at' : Vertex → Visit) → IsWritten at vertex (closed_as (closed + 1) (at vertex)) at' → (walk : Walk) → IsWalkTo arcs at' start to walk
          → IsCheapest arcs start to walk × (walk.cost ≤ length vertices * heaviest)
      cheapest to is at' written walk found =
          let key_is : key ≡ (at to).cost + estimate to =
          subst (λ (v : Vertex). key ≡ (at v).cost + estimate v) is vertex-key in
          let cost : walk.cost ≡ (at to).cost =
          found.known ∙ ap (λ (v : Vertex). (at' v).cost) (sym is) ∙ ap (λ (u : Visit). u.cost) written.here ∙ ap (λ (v : Vertex). (at v).cost) is in
          let seen : IsSeen (at to) = subst (λ (v : Vertex). IsSeen (at v)) is vertex-seen in
          let more = mul-le closed heaviest (length vertices) heaviest (omega (arith, closed-fewer)) (omega arith) in (
            record {
              walks = found.walks;
              adds_up = found.adds_up;
              least = λ steps walks. no_less key_is cost steps walks;
            },
            omega (arith, cost, more, between.known.within to seen),
          )
        where
          no_less : key ≡ (at to).cost + estimate to → walk.cost ≡ (at to).cost → (steps : List Step) → Walks arcs start steps to → walk.cost ≤ cost_of arcs steps
          no_less key_is cost steps walks =
              let less = none_cheaper vertices arcs estimate heaviest searchable at waiting (closed * heaviest) closed between.known between.relaxed to key key_is least
              steps start 0 start-seen (omega (arith, between.tree.begins)) walks in
              omega (arith, less, cost)

      module _ (at' : Vertex → Visit) (closed' : ℕ) (written : IsWritten at vertex (closed_as (closed + 1) (at vertex)) at') (next : closed' ≡ closed + 1) where
        next_limit : closed * heaviest + heaviest ≡ closed' * heaviest
        next_limit = sym (ap (λ (n : ℕ). n * heaviest) (next ∙ omega arith) ∙ suc-mul closed heaviest)

        -- the vertex is closed, and its arcs are still to be followed
        pub turn-known : IsKnown vertices estimate at' rest (closed' * heaviest) closed'
        turn-known =
            subst (λ (n : ℕ). IsKnown vertices estimate at' rest (closed' * heaviest) n) (sym next)
            (subst (λ (limit : ℕ). IsKnown vertices estimate at' rest limit (closed + 1)) next_limit
            (known-closed vertices estimate at waiting rest (closed * heaviest) closed key vertex between.known taken least unclosed at' written heaviest))

        pub turn-closing : IsClosing estimate heaviest at' (closed' * heaviest) vertex
        turn-closing =
            subst (λ (limit : ℕ). IsClosing estimate heaviest at' limit vertex) next_limit
            (closing vertices estimate at waiting rest (closed * heaviest) closed key vertex between.known taken least unclosed at' written heaviest)

        pub turn-relaxing : AreBeingRelaxed arcs at' vertex 0
        turn-relaxing = relaxing vertices estimate at waiting rest (closed * heaviest) closed key vertex between.known taken least unclosed at' written arcs between.relaxed

        pub turn-few : closed' ≤ length vertices
        turn-few = omega (arith, closed-fewer, next)

        pub turn-tree : IsTree arcs start at'
        turn-tree = tree-closed vertices estimate at waiting rest (closed * heaviest) closed key vertex between.known taken least unclosed at' written arcs start between.tree

        pub turn-closed : IsClosed (at' vertex)
        turn-closed = turn-closing.closed

        fewer_open : (count : Vertex → ℕ) → sum_open count at' vertices + count vertex ≤ sum_open count at vertices
        fewer_open count = sum_open-closed vertices estimate at waiting rest (closed * heaviest) closed key vertex between.known taken least unclosed at' written count

        module _ (at'' : Vertex → Visit) (waiting' : List HeapEntry) (ranks : KeepsRanks at' at'') where
          -- the arcs were followed
          pub between-turned : IsTree arcs start at'' → IsKnown vertices estimate at'' waiting' (closed' * heaviest) closed' → AllRelaxed arcs at''
              → IsBetween vertices arcs estimate heaviest start at'' waiting' closed'
          between-turned tree known relaxed = record {
            tree = tree;
            known = known;
            relaxed = relaxed;
            few = omega (arith, next, between.few, fewer_open (λ v. 1), sum_open-kept (λ v. 1) at' at'' vertices ranks);
          }

          -- another vertex that was not closed still is not
          pub goal-turned : (to : Vertex) → vertex ≢ to → (at to).rank ≡ 0 → (at'' to).rank ≡ 0
          goal-turned to differ goal = ranks.same to ∙ ap (λ (u : Visit). u.rank) (written.others to (λ is. differ (sym is))) ∙ goal

          pub work-turned : length waiting' ≤ length rest + length (arcs vertex) → work vertices arcs at'' waiting' < work vertices arcs at waiting
          work-turned more = omega (arith, more, one_fewer, fewer_open (λ v. length (arcs v)), sum_open-kept (λ v. length (arcs v)) at' at'' vertices ranks)
