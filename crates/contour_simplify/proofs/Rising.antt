-- The places that are kept at first: they rise.
use Rattle.std.proofs.Common.{◌≡◌, ℕ, ◌+◌, ◌<◌, inl, inr, Bool, true, false, List, [], ◌∷◌, ◌++◌, length, get_or, map, take, arith, refl, sym, ap, ◌∙◌}
use Rattle.std.specs.Prelude.{All, min, max, if◌then◌else◌, ◌==◌}
use Rattle.std.specs.List.{AllPairs, range_with_len, list_any}
use Rattle.std.specs.Cmp.{IsStrictWeakOrder}
use Rattle.std.proofs.lemmas.Bool.{cases_order, cases_lt, both_ways, eqb-false}
use Rattle.std.proofs.lemmas.List.{length-map, get_or_append_left, length_push, get_or_push, length-append}
use Rattle.std.proofs.lemmas.List.Elements.{All-filter, All-cons, All-nil}
use Rattle.std.proofs.lemmas.List.Kept.{AllPairs-filter}
use Rattle.std.proofs.lemmas.List.Folds.{list_any_at}
use Rattle.std.proofs.lemmas.List.FromFn.{get_or-range_with_len, length-range_with_len}
use Rattle.std.proofs.lemmas.List.MinMax.{IsStrictWeakOrder-flip}
use Rattle.std.proofs.lemmas.List.Sums.{prefix_len_stops}
use Rattle.nav_base.specs.declared.point.Point.{Point}
use Rattle.mesh_types.specs.declared.region.UnitEdge.{UnitEdge}
use Rattle.mesh_types.specs.Rings.{IsRing, beginnings}
use Rattle.mesh_types.specs.LinkOrder.{is_point_before}
use Rattle.mesh_types.specs.Choices.{first_best_place}
use Rattle.mesh_types.specs.Simplified.{does_change, changes, extremes, kept_places, kept_round, origin}
use Rattle.mesh_types.specs.Words.{twice_round}
use Rattle.contour_simplify.specs.Rounds.{AreKeptRound}
use Rattle.contour_simplify.proofs.Bests.{best_there}
use Rattle.mesh_types.proofs.LinkOrderLaws.{points_order, points_tie}

-- places of a contour in rising order
pub record AreKept (count : ℕ) (places : List ℕ) : Type 0 where
  pub some : 0 < length places
  pub rising : AllPairs (λ x y. x < y) places
  pub below : All (λ k. k < count) places

range_rises : (count : ℕ) → AllPairs (λ x y. x < y) (range_with_len 0 count)
range_rises count i j d before there =
    let size : length (range_with_len 0 count) ≡ count = length-range_with_len 0 count in
    omega (arith, before, there, size, get_or-range_with_len 0 count i d (omega (arith, before, there, size)), get_or-range_with_len 0 count j d (omega (arith, there, size)))

range_below : (count : ℕ) → All (λ k. k < count) (range_with_len 0 count)
range_below count k d there =
    let size : length (range_with_len 0 count) ≡ count = length-range_with_len 0 count in
    omega (arith, there, size, get_or-range_with_len 0 count k d (omega (arith, there, size)))

changes_kept : (edges : List UnitEdge) → 0 < length (changes edges) → AreKept (length edges) (changes edges)
changes_kept edges some = record {
  some = some;
  rising = AllPairs-filter (λ x y. x < y) (does_change edges) (range_with_len 0 (length edges)) (range_rises (length edges));
  below = All-filter (does_change edges) (λ k. k < length edges) (range_with_len 0 (length edges)) (range_below (length edges));
}

-- none beats the first best
unbeaten : {X : Type 0} (beats : X → X → Bool) → IsStrictWeakOrder beats → (xs : List X) (d : X) (k : ℕ) → 0 < length xs → k < length xs
    → beats (get_or xs k d) (get_or xs (first_best_place beats xs) d) ≡ false
unfolding first_best_place
unbeaten beats order xs d k some there = by_case (beats (get_or xs k d) (get_or xs (first_best_place beats xs) d)) refl
  where
    by_case : (test : Bool) → beats (get_or xs k d) (get_or xs (first_best_place beats xs) d) ≡ test → beats (get_or xs k d) (get_or xs (first_best_place beats xs) d) ≡ false
    by_case false is = is
    by_case true is = absurd (both_ways _ (prefix_len_stops (λ x. list_any (λ y. beats y x) xs) xs d (best_there beats order xs d some))
        (list_any_at (λ y. beats y (get_or xs (first_best_place beats xs) d)) xs k d there is))

pub greatest_order : IsStrictWeakOrder (λ p q. is_point_before q p)
greatest_order = IsStrictWeakOrder-flip is_point_before points_order

-- a corner that is both the least and the greatest is the only one
alone : (corners : List Point) (k : ℕ) → 0 < length corners → k < length corners → first_best_place is_point_before corners ≡ first_best_place (λ p q. is_point_before q p) corners
    → get_or corners k origin ≡ get_or corners (first_best_place is_point_before corners) origin
alone corners k some there same =
    points_tie (get_or corners k origin) (get_or corners (first_best_place is_point_before corners) origin)
    (unbeaten is_point_before points_order corners origin k some there)
    (ap (λ (best : ℕ). is_point_before (get_or corners best origin) (get_or corners k origin)) same ∙ unbeaten (λ p q. is_point_before q p) greatest_order corners origin k some there)

-- a ring has more than one edge
several : (edges : List UnitEdge) → IsRing edges → 0 < length edges → 1 < length edges
several [] ring some = absurd (omega (arith, some))
several (edge ∷ []) ring some = absurd (ring.moving 0 edge (omega arith) (sym (ap (λ ps. get_or ps 0 origin) ring.closed)))
several (edge ∷ other ∷ edges) ring some = omega arith

differ : (edges : List UnitEdge) → IsRing edges → 0 < length edges
    → first_best_place is_point_before (beginnings edges) ≡ first_best_place (λ p q. is_point_before q p) (beginnings edges) → ⊥
differ edges ring some same =
    let corners : List Point = beginnings edges in
    let size : length corners ≡ length edges = length-map edges (λ (edge : UnitEdge). edge.from) in
    let two : 1 < length corners = omega (arith, size, several edges ring some) in
    ring.apart 0 1 origin (omega arith) two
    (alone corners 0 (omega (arith, two)) (omega (arith, two)) same ∙ sym (alone corners 1 (omega (arith, two)) two same))

rises_two : (a b : ℕ) → a < b → AllPairs (λ x y. x < y) (a ∷ b ∷ [])
rises_two a b less i j d before there =
    let first : i ≡ 0 = omega (arith, before, there) in
    let second : j ≡ 1 = omega (arith, before, there) in
    rw (first, second) less

pair_kept : (count a b : ℕ) → a < count → b < count → ¬ (a ≡ b) → AreKept count (min a b ∷ max a b ∷ [])
pair_kept count a b first second apart = record {
  some = omega arith;
  rising = rises_two (min a b) (max a b) (elim (cases_order a b) [ inl same ↦ absurd (apart same) | inr (inl less) ↦ omega (arith, less) | inr (inr more) ↦ omega (arith, more) ]);
  below = All-cons (λ k. k < count) (min a b) (max a b ∷ []) (omega (arith, first, second)) (All-cons (λ k. k < count) (max a b) [] (omega (arith, first, second)) (All-nil (λ k. k < count)));
}

extremes_kept : (edges : List UnitEdge) → IsRing edges → 0 < length edges → AreKept (length edges) (extremes (beginnings edges))
extremes_kept edges ring some =
    let size : length (beginnings edges) ≡ length edges = length-map edges (λ (edge : UnitEdge). edge.from) in
    pair_kept (length edges) (first_best_place is_point_before (beginnings edges)) (first_best_place (λ p q. is_point_before q p) (beginnings edges))
    (omega (arith, size, best_there is_point_before points_order (beginnings edges) origin (omega (arith, size, some))))
    (omega (arith, size, best_there (λ p q. is_point_before q p) greatest_order (beginnings edges) origin (omega (arith, size, some))))
    (differ edges ring some)

pub places_kept : (edges : List UnitEdge) → IsRing edges → 0 < length edges → AreKept (length edges) (kept_places edges)
unfolding kept_places
places_kept edges ring some = by_case (length (changes edges) == 0) refl
  where
    by_case : (test : Bool) → (length (changes edges) == 0) ≡ test → AreKept (length edges) (if test then extremes (beginnings edges) else changes edges)
    by_case true is = extremes_kept edges ring some
    by_case false is = changes_kept edges (omega (arith, eqb-false (length (changes edges)) 0 is))

-- with the first of them once more, a round later, they are stops
pub again : (count : ℕ) (places : List ℕ) (d : ℕ) → 0 < length places → map (λ place. place + count) (take 1 places) ≡ (get_or places 0 d + count) ∷ []
again count [] d some = absurd (omega (arith, some))
again count (place ∷ places) d some = refl

stops_from : (count : ℕ) (places : List ℕ) (first : ℕ) → AreKept count places → first < count → AreKeptRound (count + count) (places ++ (first + count) ∷ [])
stops_from count places first kept inside = record {
  some = omega (arith, size);
  rising = λ k there. elim (cases_lt (k + 1) (length places)) [
    | inl before ↦ omega (arith, kept.rising k (k + 1) 0 (omega arith) before, own k (omega (arith, before)), own (k + 1) before)
    | inr last ↦ omega (arith, kept.below k 0 (omega (arith, there, size)), own k (omega (arith, there, size)), get_or_push places (first + count) 0 (k + 1) (omega (arith, there, size, last)))
  ];
  below = λ k there. elim (cases_lt k (length places)) [
    | inl before ↦ omega (arith, kept.below k 0 before, own k before)
    | inr last ↦ omega (arith, inside, get_or_push places (first + count) 0 k (omega (arith, there, size, last)))
  ];
}
  where
    size : length (places ++ (first + count) ∷ []) ≡ length places + 1
    size = length_push places (first + count)

    own : (k : ℕ) → k < length places → get_or (places ++ (first + count) ∷ []) k 0 ≡ get_or places k 0
    own k there = get_or_append_left places ((first + count) ∷ []) 0 k there

pub kept_round_are : (edges : List UnitEdge) → IsRing edges → 0 < length edges → AreKeptRound (length (twice_round edges)) (kept_round edges)
unfolding kept_round
kept_round_are edges ring some =
    let kept : AreKept (length edges) (kept_places edges) = places_kept edges ring some in
    rw (again (length edges) (kept_places edges) 0 kept.some, length-append (beginnings edges) (beginnings edges), length-map edges (λ (edge : UnitEdge). edge.from))
    (stops_from (length edges) (kept_places edges) (get_or (kept_places edges) 0 0) kept (kept.below 0 0 kept.some))
