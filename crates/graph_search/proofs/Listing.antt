-- The list of what a search within limits closes.
use Rattle.std.proofs.Common.{◌≡◌, ℕ, ◌+◌, ◌-◌, ◌*◌, ◌<◌, ◌≤◌, List, [], ◌∷◌, ◌++◌, length, refl, sym, subst, ap, ◌∙◌, inl, inr, arith}
use Rattle.std.specs.Prelude.{Contains, All, ◌==◌, slice_get, Some}
use Rattle.std.specs.List.Sorted.{IsPermutation}
use Rattle.std.proofs.lemmas.Bool.{cases_eq, cond-true, cond-false, eq-eqb, ne_eqb}
use Rattle.std.proofs.lemmas.Nat.{mul-le}
use Rattle.std.proofs.lemmas.List.{length-append}
use Rattle.std.proofs.lemmas.List.Elements.{All-head}
use Rattle.std.proofs.lemmas.List.Sorted.{All-permutation}
use Rattle.std.proofs.lemmas.Option.{slice_get_within, none-some}
use Rattle.graph_search.specs.declared.radix_heap.HeapEntry.{HeapEntry}
use Rattle.graph_search.specs.declared.exploring.Limits.{Limits}
use Rattle.graph_search.specs.declared.exploring.ReachedVertex.{ReachedVertex}
use Rattle.graph_search.specs.declared.graph.Vertex.{Vertex}
use Rattle.graph_search.specs.declared.graph.Arc.{Arc}
use Rattle.graph_search.specs.declared.graph.Step.{Step}
use Rattle.graph_search.specs.declared.visits.Visit.{Visit}
use Rattle.graph_search.specs.Walks.{arc_of, Walks, cost_of, IsSearchable}
use Rattle.graph_search.specs.Visited.{IsSeen, IsClosed, IsWritten}
use Rattle.graph_search.specs.Entries.{entry}
use Rattle.graph_search.specs.Searching.{IsStepTo, IsKnown, KeepsRanks, closed_as}
use Rattle.graph_search.specs.Explored.{IsReachedBy, AreReachedFrom, AreReachedOnce, AreInOrder, AreLeast, AreLimited, CostAtMost, HasAllBelow, IsReached}
use Rattle.graph_search.specs.Exploring.{reached_as, IsListedAt, IsListing, IsBeyond, IsWithin, IsExplored}
use Rattle.graph_search.proofs.ReachedLists.{get-pushed, get-kept, get-last, reached-by-kept, reached-kept}
use Rattle.graph_search.proofs.Closing.{first_seen}
use Rattle.graph_search.proofs.Stopping.{none_cheaper, none_apart, closed_within}
use Rattle.graph_search.proofs.Turns.{IsBetween, vertex-key, vertex-member, closed-fewer}
use Rattle.graph_search.proofs.Writing.{written_or_kept}

-- nothing stands in no list
none-in : {P : Type 0} {X : Type 0} (list : List X) (k : ℕ) (x : X) → list ≡ [] → slice_get list k ≡ Some x → P
none-in list k x none is = absurd (none-some x (subst (λ xs. slice_get xs k ≡ Some x) none is))

-- at the beginning
pub listing-begun : (arcs : Vertex → List Arc) (estimate : Vertex → ℕ) (from : Vertex) (stops : List Vertex) (limits : Limits) (most : ℕ)
    (at : Vertex → Visit) (list : List ReachedVertex) (closed : ℕ) → closed ≡ 0 → list ≡ [] → ((v : Vertex) → (at v).rank ≡ 0)
    → IsListing arcs estimate from stops limits most at list closed
listing-begun arcs estimate from stops limits most at list closed zero none unclosed = record {
  count = ap (λ (xs : List ReachedVertex). length xs) none ∙ sym zero;
  ranked = λ k e is. none-in list k e none is;
  listed = λ v is_closed. absurd (omega (arith, is_closed, unclosed v));
  tree = λ some. absurd (omega (arith, some, zero));
  least = λ k e steps is. none-in list k e none is;
  order = λ j k a b below is. none-in list j a none is;
  limited = λ k e some is. none-in list k e none is;
  costs = λ k e is. none-in list k e none is;
  no_stop = λ k e is. none-in list k e none is;
}

-- another list and another number that are the same
pub listing-same : (arcs : Vertex → List Arc) (estimate : Vertex → ℕ) (from : Vertex) (stops : List Vertex) (limits : Limits) (most : ℕ)
    (at : Vertex → Visit) (list list' : List ReachedVertex) (closed closed' : ℕ) → list ≡ list' → closed ≡ closed'
    → IsListing arcs estimate from stops limits most at list closed → IsListing arcs estimate from stops limits most at list' closed'
listing-same arcs estimate from stops limits most at list list' closed closed' same same' listing =
    subst (λ (xs : List ReachedVertex). IsListing arcs estimate from stops limits most at xs closed') same
    (subst (IsListing arcs estimate from stops limits most at list) same' listing)

pub explored-same : (arcs : Vertex → List Arc) (estimate : Vertex → ℕ) (from : Vertex) (stops : List Vertex) (limits : Limits) (count most : ℕ)
    (list list' : List ReachedVertex) (seen : ℕ) → list ≡ list'
    → IsExplored arcs estimate from stops limits count most list seen → IsExplored arcs estimate from stops limits count most list' seen
explored-same arcs estimate from stops limits count most list list' seen same explored =
    subst (λ (xs : List ReachedVertex). IsExplored arcs estimate from stops limits count most xs seen) same explored

-- where ranks and the costs of closed vertices are kept, so is the list
pub listing-kept : (arcs : Vertex → List Arc) (estimate : Vertex → ℕ) (from : Vertex) (stops : List Vertex) (limits : Limits) (most : ℕ)
    (at at' : Vertex → Visit) (list : List ReachedVertex) (closed : ℕ) → KeepsRanks at at'
    → IsListing arcs estimate from stops limits most at list closed → IsListing arcs estimate from stops limits most at' list closed
listing-kept arcs estimate from stops limits most at at' list closed kept listing = record {
  count = listing.count;
  ranked = λ k e is.
      let was = listing.ranked k e is in
      (kept.same e.vertex ∙ was.0, kept.costs e.vertex (omega (arith, was.0)) ∙ was.1);
  listed = λ v is_closed.
      let was = listing.listed v (omega (arith, is_closed, kept.same v)) in
      record { place = was.place; entry = was.entry; there = was.there; is = was.is; ranked = kept.same v ∙ was.ranked };
  tree = listing.tree;
  least = listing.least;
  order = listing.order;
  limited = listing.limited;
  costs = listing.costs;
  no_stop = listing.no_stop;
}

module _ (vertices : List Vertex) (arcs : Vertex → List Arc) (estimate : Vertex → ℕ) (heaviest : ℕ) (searchable : IsSearchable vertices arcs estimate heaviest)
    (start : Vertex) (at : Vertex → Visit) (waiting : List HeapEntry) (closed : ℕ) (between : IsBetween vertices arcs estimate heaviest start at waiting closed)
    (stops : List Vertex) (limits : Limits) (list : List ReachedVertex)
    (listing : IsListing arcs estimate start stops limits (length vertices * heaviest) at list closed) where
  abbrev most : ℕ
  most = length vertices * heaviest

  start-seen : IsSeen (at start)
  start-seen = omega (arith, between.tree.begins)

  -- a closed vertex is in the list
  in-list : (v : Vertex) → IsClosed (at v) → IsReached list v
  in-list v is_closed =
      let was = listing.listed v is_closed in
      record { place = was.place; entry = was.entry; there = was.there; is = was.is }

  -- no vertex is in it twice
  once' : AreReachedOnce list
  once' j k a b is is' same =
      let rank : (at a.vertex).rank ≡ (at b.vertex).rank = ap (λ (v : Vertex). (at v).rank) same in
      omega (arith, rank, (listing.ranked j a is).0, (listing.ranked k b is').0)

  module _ (none : waiting ≡ []) where
    known-none : IsKnown vertices estimate at [] (closed * heaviest) closed
    known-none = subst (λ (entries : List HeapEntry). IsKnown vertices estimate at entries (closed * heaviest) closed) none between.known

    some-rank : (v : Vertex) (steps : List Step) → Walks arcs start steps v → IsClosed (at v)
    some-rank v steps walk =
        elim (cases_eq (at v).rank 0) [
          | inl unclosed ↦ absurd (none_apart vertices arcs estimate heaviest searchable at (closed * heaviest) closed known-none between.relaxed v unclosed start start-seen steps walk)
          | inr some ↦ omega (arith, some)
        ]

    -- where no vertex waits, all are in it to which a walk leads
    pub explored-all : IsExplored arcs estimate start stops limits (length vertices) most list 18446744073709551615
    explored-all = record {
      tree = listing.tree (omega (arith, some-rank start [] refl, between.known.ranks start));
      once = once';
      least = listing.least;
      order = listing.order;
      limited = listing.limited;
      within = λ v steps walk below. in-list v (some-rank v steps walk);
      stopped = λ k e is stop. absurd (listing.no_stop k e is stop);
      ended = inl refl;
      few = listing.costs;
      short = omega (arith, between.few, listing.count);
    }

  module _ (key : ℕ) (vertex : Vertex) (rest : List HeapEntry) (taken : IsPermutation waiting (entry key vertex ∷ rest))
      (least : All (λ (e : HeapEntry). key ≤ e.key) waiting) (unclosed : (at vertex).rank ≡ 0) where
    key-is : key ≡ (at vertex).cost + estimate vertex
    key-is = vertex-key vertices arcs estimate heaviest searchable start at waiting closed between key vertex rest taken least unclosed

    fewer : closed + 1 ≤ length vertices
    fewer = closed-fewer vertices arcs estimate heaviest searchable start at waiting closed between key vertex rest taken least unclosed

    member : Contains vertices vertex
    member = vertex-member vertices arcs estimate heaviest searchable start at waiting closed between key vertex rest taken least unclosed

    seen : IsSeen (at vertex)
    seen = first_seen vertices estimate at waiting rest (closed * heaviest) closed key vertex between.known taken least unclosed

    low : (at vertex).cost ≤ most
    low =
        let more = mul-le closed heaviest (length vertices) heaviest (omega (arith, fewer)) (omega arith) in
        omega (arith, more, between.known.within vertex seen)

    key-low : key < 18446744073709551615
    key-low = omega (arith, key-is, low, searchable.small vertex member)

    -- each vertex with a walk whose cost and estimate are less than the key is in the list
    below-key : HasAllBelow arcs estimate start key list
    below-key v steps walk (inl less) =
        in-list v (closed_within vertices arcs estimate heaviest searchable at waiting (closed * heaviest) closed between.known between.relaxed v key least
        steps start 0 start-seen (omega (arith, between.tree.begins)) walk (omega (arith, less)))
    below-key v steps walk (inr all) = absurd (omega (arith, all, key-low))

    -- a limit ends the search
    pub explored-limit : IsBeyond limits closed key → IsExplored arcs estimate start stops limits (length vertices) most list key
    explored-limit beyond = record {
      tree = listing.tree beyond.some;
      once = once';
      least = listing.least;
      order = listing.order;
      limited = listing.limited;
      within = below-key;
      stopped = λ k e is stop. absurd (listing.no_stop k e is stop);
      ended = elim beyond.limit [
        | inl greater ↦ inr (inr (inl greater))
        | inr many ↦ inr (inr (inr (omega (arith, many, listing.count))))
      ];
      few = listing.costs;
      short = omega (arith, between.few, listing.count);
    }

    module _ (allowed : IsWithin limits closed key) (at' : Vertex → Visit) (closed' : ℕ)
        (written : IsWritten at vertex (closed_as (closed + 1) (at vertex)) at') (next : closed' ≡ closed + 1) where
      abbrev new : ReachedVertex
      new = reached_as at closed vertex

      abbrev list' : List ReachedVertex
      list' = list ++ new ∷ []

      kept : (v : Vertex) → IsClosed (at v) → at' v ≡ at v
      kept v is_closed =
          elim (written_or_kept at at' vertex (closed_as (closed + 1) (at vertex)) written v) [
            | inl here ↦
                let same : (at v).rank ≡ (at vertex).rank = ap (λ (u : Vertex). (at u).rank) here.0 in
                absurd (omega (arith, is_closed, same, unclosed))
            | inr other ↦ other.1
          ]

      ranked' : (k : ℕ) (e : ReachedVertex) → slice_get list' k ≡ Some e → ((at' e.vertex).rank ≡ k + 1) × ((at' e.vertex).cost ≡ e.cost)
      ranked' k e is =
          elim (get-pushed list new e k is) [
            | inl before ↦
                let was = listing.ranked k e before in
                let same = kept e.vertex (omega (arith, was.0)) in
                (ap (λ (u : Visit). u.rank) same ∙ was.0, ap (λ (u : Visit). u.cost) same ∙ was.1)
            | inr last ↦
                let here : at' e.vertex ≡ closed_as (closed + 1) (at vertex) = ap (λ (x : ReachedVertex). at' x.vertex) (sym last.1) ∙ written.here in
                let rank : (at' e.vertex).rank ≡ closed + 1 = ap (λ (u : Visit). u.rank) here in
                let cost : (at' e.vertex).cost ≡ (at vertex).cost = ap (λ (u : Visit). u.cost) here in
                (omega (arith, rank, last.0, listing.count), cost ∙ ap (λ (x : ReachedVertex). x.cost) last.1)
          ]

      listed' : (v : Vertex) → IsClosed (at' v) → IsListedAt list' (at' v).rank v
      listed' v is_closed =
          elim (written_or_kept at at' vertex (closed_as (closed + 1) (at vertex)) written v) [
            | inl here ↦
                let rank : (at' v).rank ≡ closed + 1 = ap (λ (u : Visit). u.rank) here.1 in
                record {
                  place = length list;
                  entry = new;
                  there = get-last list new;
                  is = sym here.0;
                  ranked = omega (arith, rank, listing.count);
                }
            | inr other ↦
                let rank : (at' v).rank ≡ (at v).rank = ap (λ (u : Visit). u.rank) other.1 in
                let was = listing.listed v (omega (arith, rank, is_closed)) in
                record {
                  place = was.place;
                  entry = was.entry;
                  there = get-kept list (new ∷ []) was.entry was.place was.there;
                  is = was.is;
                  ranked = rank ∙ was.ranked;
                }
          ]

      -- the first vertex is the start
      module _ (none : closed ≡ 0) where
        is-start : vertex ≡ start
        is-start =
            elim (between.tree.steps vertex seen) [
              | inl is ↦ is
              | inr step ↦ absurd (omega (arith, step.leaves, between.known.ranks (at vertex).last.from, none))
            ]

        first : new ≡ record { vertex = start; cost = 0; via = 0; place = 0 }
        first =
            let cost : (at vertex).cost ≡ 0 = ap (λ (v : Vertex). (at v).cost) is-start ∙ between.tree.begins in
            let test = eq-eqb closed 0 none in
            let via = cond-true (closed == 0) 0 ((at (at vertex).last.from).rank - 1) test in
            let place = cond-true (closed == 0) 0 (at vertex).last.place test in
            λ i. record { vertex = is-start i; cost = cost i; via = via i; place = place i }

        no-list : list ≡ []
        no-list = empty list (listing.count ∙ none)
          where
            empty : (xs : List ReachedVertex) → length xs ≡ 0 → xs ≡ []
            empty [] is = refl
            empty (x ∷ xs) is = absurd (omega (arith, is))

        tree-first : AreReachedFrom arcs start list'
        tree-first = record {
          begins = ap (λ (xs : List ReachedVertex). slice_get (xs ++ new ∷ []) 0) no-list ∙ ap Some first;
          steps = λ k e some is.
              let below = slice_get_within list' k e is in
              let count = length-append list (new ∷ []) in
              absurd (omega (arith, below, count, listing.count, none, some));
        }

      -- another is reached from one in the list
      module _ (some : 0 < closed) where
        not-start : vertex ≡ start → ⊥
        not-start is =
            let ranked = (listing.ranked 0 _ (listing.tree some).begins).0 in
            let same : (at vertex).rank ≡ (at start).rank = ap (λ (v : Vertex). (at v).rank) is in
            omega (arith, ranked, same, unclosed)

        step : IsStepTo arcs at vertex (at vertex).last
        step = elim (between.tree.steps vertex seen) [ inl is ↦ absurd (not-start is) | inr held ↦ held ]

        new-reached : IsReachedBy arcs list' (length list) new
        new-reached =
            let last = (at vertex).last in
            let was = listing.listed last.from step.leaves in
            let test = ne_eqb closed 0 (λ is. omega (arith, is, some)) in
            let via : new.via ≡ was.place =
            cond-false (closed == 0) 0 ((at last.from).rank - 1) test ∙ omega (arith, was.ranked) in
            let place : new.place ≡ last.place = cond-false (closed == 0) 0 last.place test in
            let same : record { from = was.entry.vertex; place = new.place } ≡ last = (λ i. record { from = was.is i; place = place i }) in
            let rank = listing.ranked was.place was.entry was.there in
            let arc : arc_of arcs (record { from = was.entry.vertex; place = new.place }) ≡ arc_of arcs last = ap (arc_of arcs) same in
            let weight : (arc_of arcs (record { from = was.entry.vertex; place = new.place })).weight ≡ (arc_of arcs last).weight =
            ap (λ (a : Arc). a.weight) arc in
            let before : (at last.from).cost ≡ was.entry.cost = ap (λ (v : Vertex). (at v).cost) (sym was.is) ∙ rank.1 in
            record {
              before = was.entry;
              there = subst (λ (n : ℕ). slice_get list' n ≡ Some was.entry) (sym via) (get-kept list (new ∷ []) was.entry was.place was.there);
              earlier = omega (arith, via, slice_get_within list was.place was.entry was.there);
              leaves = subst (λ (s : Step). s.place < length (arcs s.from)) (sym same) step.there;
              enters = ap (λ (a : Arc). a.to) arc ∙ step.enters;
              adds_up = omega (arith, step.adds_up, before, weight);
            }

        tree-more : AreReachedFrom arcs start list'
        tree-more = record {
          begins = get-kept list (new ∷ []) _ 0 (listing.tree some).begins;
          steps = λ k e later is.
              elim (get-pushed list new e k is) [
                | inl before ↦ reached-by-kept arcs list (new ∷ []) k e ((listing.tree some).steps k e later before)
                | inr last ↦
                    subst (λ (n : ℕ). IsReachedBy arcs list' n e) (sym last.0) (subst (IsReachedBy arcs list' (length list)) last.1 new-reached)
              ];
        }

      tree' : AreReachedFrom arcs start list'
      tree' = elim (cases_eq closed 0) [ inl none ↦ tree-first none | inr some ↦ tree-more (omega (arith, some)) ]

      least-new : (steps : List Step) → Walks arcs start steps vertex → (at vertex).cost ≤ cost_of arcs steps
      least-new steps walk =
          let less = none_cheaper vertices arcs estimate heaviest searchable at waiting (closed * heaviest) closed between.known between.relaxed vertex key key-is least
          steps start 0 start-seen (omega (arith, between.tree.begins)) walk in
          omega (arith, less)

      least' : AreLeast arcs start list'
      least' k e steps is walk =
          elim (get-pushed list new e k is) [
            | inl before ↦ listing.least k e steps before walk
            | inr last ↦ subst (λ (x : ReachedVertex). Walks arcs start steps x.vertex → x.cost ≤ cost_of arcs steps) last.1 (least-new steps) walk
          ]

      -- no vertex of the list has a greater cost and estimate
      no-more : (j : ℕ) (a : ReachedVertex) → slice_get list j ≡ Some a → a.cost + estimate a.vertex ≤ key
      no-more j a is =
          let was = listing.ranked j a is in
          let order = All-head (λ (e : HeapEntry). (at a.vertex).cost + estimate a.vertex ≤ e.key) (entry key vertex) rest
          (All-permutation (λ (e : HeapEntry). (at a.vertex).cost + estimate a.vertex ≤ e.key) waiting (entry key vertex ∷ rest) taken
          (between.known.order a.vertex (omega (arith, was.0)))) in
          omega (arith, order, was.1)

      order' : AreInOrder estimate list'
      order' j k a b below is is' =
          elim (get-pushed list new b k is') [
            | inl before' ↦
                elim (get-pushed list new a j is) [
                  | inl before ↦ listing.order j k a b below before before'
                  | inr last ↦ absurd (omega (arith, below, last.0, slice_get_within list k b before'))
                ]
            | inr last' ↦
                let own : b.cost + estimate b.vertex ≡ (at vertex).cost + estimate vertex = ap (λ (x : ReachedVertex). x.cost + estimate x.vertex) (sym last'.1) in
                elim (get-pushed list new a j is) [
                  | inl before ↦ omega (arith, own, key-is, no-more j a before)
                  | inr last ↦
                      let other : a.cost + estimate a.vertex ≡ (at vertex).cost + estimate vertex = ap (λ (x : ReachedVertex). x.cost + estimate x.vertex) (sym last.1) in
                      omega (arith, own, other)
                ]
          ]

      limited' : AreLimited estimate limits list'
      limited' k e some is =
          elim (get-pushed list new e k is) [
            | inl before ↦ listing.limited k e some before
            | inr last ↦
                let own : e.cost + estimate e.vertex ≡ (at vertex).cost + estimate vertex = ap (λ (x : ReachedVertex). x.cost + estimate x.vertex) (sym last.1) in
                let held = allowed (omega (arith, some, last.0, listing.count)) in
                (omega (arith, own, key-is, held.0), omega (arith, held.1, last.0, listing.count))
          ]

      costs' : CostAtMost most list'
      costs' k e is =
          elim (get-pushed list new e k is) [
            | inl before ↦ listing.costs k e before
            | inr last ↦ subst (λ (x : ReachedVertex). x.cost ≤ most) last.1 low
          ]

      count' : length list' ≡ closed'
      count' =
          let more = length-append list (new ∷ []) in
          omega (arith, more, listing.count, next)

      -- the vertex is no stop: it comes into the list, and the search goes on
      pub listing-closed : (Contains stops vertex → ⊥) → IsListing arcs estimate start stops limits most at' list' closed'
      listing-closed no_stop = record {
        count = count';
        ranked = ranked';
        listed = listed';
        tree = λ some. tree';
        least = least';
        order = order';
        limited = limited';
        costs = costs';
        no_stop = λ k e is stop.
            elim (get-pushed list new e k is) [
              | inl before ↦ listing.no_stop k e before stop
              | inr last ↦ no_stop (subst (λ (x : ReachedVertex). Contains stops x.vertex) (sym last.1) stop)
            ];
      }

      -- it is a stop: the search ends
      pub explored-stop : Contains stops vertex → IsExplored arcs estimate start stops limits (length vertices) most list' key
      explored-stop stop = record {
        tree = tree';
        once = λ j k a b is is' same.
            let rank : (at' a.vertex).rank ≡ (at' b.vertex).rank = ap (λ (v : Vertex). (at' v).rank) same in
            omega (arith, rank, (ranked' j a is).0, (ranked' k b is').0);
        least = least';
        order = order';
        limited = limited';
        within = λ v steps walk below. reached-kept list (new ∷ []) v (below-key v steps walk below);
        stopped = λ k e is held.
            elim (get-pushed list new e k is) [
              | inl before ↦ absurd (listing.no_stop k e before held)
              | inr last ↦
                  let own : e.cost + estimate e.vertex ≡ (at vertex).cost + estimate vertex = ap (λ (x : ReachedVertex). x.cost + estimate x.vertex) (sym last.1) in
                  (omega (arith, last.0, count', next, listing.count), omega (arith, own, key-is))
            ];
        ended = inr (inl (record {
          stop = vertex;
          stops_there = stop;
          reached = record { place = length list; entry = new; there = get-last list new; is = refl };
        }));
        few = costs';
        short = omega (arith, count', next, fewer);
      }
