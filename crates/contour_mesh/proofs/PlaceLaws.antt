-- Lists in the order of places: what stands first at a place.
use Rattle.std.proofs.Common.{◌≡◌, ℕ, ◌-◌, ◌<◌, ◌≤◌, true, false, length, List, get_or, Some, None, ap, ◌∙◌, sym, refl, arith, inl, inr}
use Rattle.std.specs.Prelude.{◌==◌, ◌&&◌}
use Rattle.std.specs.Option.{option_map}
use Rattle.std.specs.List.Sorted.{IsPartitionedBy, IsSortedBy, ties}
use Rattle.std.specs.Ordering.{is_lt, nat_cmp, on, ordering_reverse, ordering_then}
use Rattle.std.specs.declared.cmp.Ordering.{Ordering}
use Rattle.std.specs.declared.cmp.Ordering.TheVariants.{Less, Equal, Greater}
use Rattle.std.specs.Cmp.{IsStrictWeakOrder, IsTotalOrder, ranked}
use Rattle.std.proofs.lemmas.Bool.{and_from, and_parts, both_ways, cases_lt, eq-eqb, eqb-true, false_from_ne_true, true_from_ne_false}
use Rattle.std.proofs.lemmas.Cmp.{nat_cmp_total, on_total, then_total}
use Rattle.std.proofs.lemmas.List.{get_or_default}
use Rattle.std.proofs.lemmas.List.MinMax.{ranks_by}
use Rattle.std.proofs.lemmas.List.Sorted.{sorted_far}
use Rattle.nav_ground.proofs.Found.{find_is, find_none}
use Rattle.contour_mesh.specs.declared.crossings.SidePosition.{SidePosition}
use Rattle.contour_mesh.specs.declared.crossings.AtPosition.{AtPosition}
use Rattle.contour_mesh.specs.SidePlaces.{side_place_cmp, is_place_before, is_same_place, stands_before, stands_at, first_at, IsCountBefore}
use Rattle.contour_mesh.proofs.SortLaws.{find-sorted, not_itself, tie-from}
use Rattle.contour_mesh.specs.Orders.{IsSortOf}

place_total : IsTotalOrder side_place_cmp
place_total =
    then_total {R = on (λ (p : SidePosition). p.region) nat_cmp} (on_total (λ (p : SidePosition). p.region) nat_cmp_total)
    (then_total {R = on (λ (p : SidePosition). p.side) nat_cmp} {S = on (λ (p : SidePosition). p.position) nat_cmp}
    (on_total (λ (p : SidePosition). p.side) nat_cmp_total) (on_total (λ (p : SidePosition). p.position) nat_cmp_total))

pub places_order : IsStrictWeakOrder is_place_before
places_order = ranks_by place_total (λ (p : SidePosition). p)

pub placed_order : {T : Type 0} → IsStrictWeakOrder (stands_before {T = T})
placed_order {T = T} = ranks_by place_total (λ (p : AtPosition T). p.place)

-- places that are the same, and places of which neither comes before the other
pub same_place : (a b : SidePosition) → is_same_place a b ≡ true → a ≡ b
same_place a b same =
    let one = and_parts (a.region == b.region && a.side == b.side) (a.position == b.position) same in
    let two = and_parts (a.region == b.region) (a.side == b.side) one.0 in
    ap (λ (n : ℕ). record a { region = n }) (eqb-true a.region b.region two.0)
    ∙ ap (λ (n : ℕ). record a { region = b.region; side = n }) (eqb-true a.side b.side two.1)
    ∙ ap (λ (n : ℕ). record b { position = n }) (eqb-true a.position b.position one.1)

both_tie : (first second : Ordering) → ordering_then first second ≡ Equal → (first ≡ Equal) × (second ≡ Equal)
both_tie Less second is = absurd cc
both_tie Equal second is = (refl, is)
both_tie Greater second is = absurd cc

equal_place : (a b : SidePosition) → side_place_cmp a b ≡ Equal → is_same_place a b ≡ true
equal_place a b is =
    let parts = both_tie _ _ is in
    let more = both_tie _ _ parts.1 in
    and_from (a.region == b.region && a.side == b.side) (a.position == b.position)
    (and_from (a.region == b.region) (a.side == b.side) (eq-eqb a.region b.region (ranked a.region b.region Equal (sym parts.0)))
    (eq-eqb a.side b.side (ranked a.side b.side Equal (sym more.0))))
    (eq-eqb a.position b.position (ranked a.position b.position Equal (sym more.1)))

pub place_tie : (a b : SidePosition) → is_place_before a b ≡ false → is_place_before b a ≡ false → is_same_place a b ≡ true
place_tie a b ab ba = by_case (side_place_cmp a b) refl ab (ap is_lt (sym (place_total.antisymm b a)) ∙ ba)
  where
    by_case : (o : Ordering) → side_place_cmp a b ≡ o → is_lt (side_place_cmp a b) ≡ false → is_lt (ordering_reverse (side_place_cmp a b)) ≡ false
        → is_same_place a b ≡ true
    by_case Less is less more = absurd (both_ways (is_lt (side_place_cmp a b)) less (ap is_lt is))
    by_case Equal is less more = equal_place a b is
    by_case Greater is less more = absurd (both_ways (is_lt (ordering_reverse (side_place_cmp a b))) more (ap (λ (o : Ordering). is_lt (ordering_reverse o)) is))

-- what stands before a place stands first
pub ahead_first : {T : Type 0} (place : SidePosition) (xs : List (AtPosition T)) → IsSortedBy stands_before xs
    → IsPartitionedBy (λ (other : AtPosition T). is_place_before other.place place) xs
ahead_first place xs sorted i j d le there later =
    true_from_ne_false (is_place_before (get_or xs i d).place place) (λ none.
    both_ways (is_place_before (get_or xs j d).place place)
    (places_order.chain (get_or xs j d).place (get_or xs i d).place place (sorted_far stands_before placed_order xs sorted i j d le there) none) later)

-- the first that stands at a place, by what stands before it
pub count_is : {T : Type 0} (place : SidePosition) (xs : List (AtPosition T)) (index : ℕ) (e : AtPosition T) → IsSortedBy stands_before xs → index < length xs
    → is_same_place (get_or xs index e).place place ≡ true → (0 < index → is_place_before (get_or xs (index - 1) e).place place ≡ true)
    → IsCountBefore place xs index
count_is {T = T} place xs index e sorted there same before = record {
  ahead = λ k d below.
      ahead_first place xs sorted k (index - 1) d (omega (arith, below)) (omega (arith, below, there))
      (ap (λ (p : AtPosition T). is_place_before p.place place) (get_or_default xs (index - 1) d e (omega (arith, below, there))) ∙ before (omega (arith, below)));
  late = λ k d above inside.
      ap (is_place_before (get_or xs k d).place) (sym (same_place (get_or xs index e).place place same))
      ∙ ap (λ (p : AtPosition T). is_place_before (get_or xs k d).place p.place) (get_or_default xs index e d there)
      ∙ sorted_far stands_before placed_order xs sorted index k d above inside;
}

ahead_differs : (a place : SidePosition) → is_place_before a place ≡ true → is_same_place a place ≡ false
ahead_differs a place ahead =
    false_from_ne_true (is_same_place a place) (λ same.
    both_ways (is_place_before a place) (ap (λ p. is_place_before p place) (same_place a place same) ∙ not_itself is_place_before places_order place) ahead)

module _ {T : Type 0} (xs : List (AtPosition T)) (place : SidePosition) (first : ℕ)
    (ahead : (k : ℕ) (d : AtPosition T) → k < first → is_place_before (get_or xs k d).place place ≡ true) where
  pub first_there : (e : AtPosition T) → first < length xs → is_same_place (get_or xs first e).place place ≡ true → Some (get_or xs first e).item ≡ first_at xs place
  first_there e there same =
      ap (option_map (λ (p : AtPosition T). p.item))
      (sym (find_is (stands_at place) xs first e there (λ k below. ahead_differs (get_or xs k e).place place (ahead k e below)) same))

  pub none_past : length xs ≤ first → None ≡ first_at xs place
  none_past past =
      ap (option_map (λ (p : AtPosition T). p.item))
      (sym (find_none (stands_at place) xs (λ k d there. ahead_differs (get_or xs k d).place place (ahead k d (omega (arith, there, past))))))

  pub none_there : (e : AtPosition T) → IsSortedBy stands_before xs → first < length xs → is_place_before (get_or xs first e).place place ≡ false
      → is_same_place (get_or xs first e).place place ≡ false → None ≡ first_at xs place
  none_there e sorted there late differs =
      ap (option_map (λ (p : AtPosition T). p.item)) (sym (find_none (stands_at place) xs (λ k d inside. differ k d inside)))
    where
      behind : is_place_before place (get_or xs first e).place ≡ true
      behind = true_from_ne_false (is_place_before place (get_or xs first e).place) (λ none.
          both_ways (is_same_place (get_or xs first e).place place) differs (place_tie (get_or xs first e).place place late none))

      after : (k : ℕ) (d : AtPosition T) → first ≤ k → k < length xs → is_same_place (get_or xs k d).place place ≡ false
      after k d above inside =
          false_from_ne_true (is_same_place (get_or xs k d).place place) (λ same.
          both_ways (is_place_before place (get_or xs first e).place)
          (ap (λ p. is_place_before p (get_or xs first e).place) (sym (same_place (get_or xs k d).place place same))
          ∙ ap (λ (p : AtPosition T). is_place_before (get_or xs k d).place p.place) (get_or_default xs first e d there)
          ∙ sorted_far stands_before placed_order xs sorted first k d above inside)
          behind)

      differ : (k : ℕ) (d : AtPosition T) → k < length xs → is_same_place (get_or xs k d).place place ≡ false
      differ k d inside = elim (cases_lt k first) [
        | inl below ↦ ahead_differs (get_or xs k d).place place (ahead k d below)
        | inr above ↦ after k d above inside
      ]

-- the order does not change what stands first at a place
pub first_of_sort : {T : Type 0} (place : SidePosition) (pivot : T) (xs sorted : List (AtPosition T)) → IsSortOf stands_before xs sorted
    → first_at sorted place ≡ first_at xs place
first_of_sort {T = T} place pivot xs sorted made =
    let x : AtPosition T = record { place = place; item = pivot } in
    let tie : (y : AtPosition T) → is_same_place y.place place ≡ true → ties stands_before x y ≡ true = λ y same.
    let at = same_place y.place place same in
    tie-from stands_before x y (ap (is_place_before place) at ∙ not_itself is_place_before places_order place)
    (ap (λ p. is_place_before p place) at ∙ not_itself is_place_before places_order place) in
    ap (option_map (λ (p : AtPosition T). p.item))
    (find-sorted stands_before (stands_at place) x xs sorted made.stable (λ k d there. tie (get_or xs k d)) (λ k d there. tie (get_or sorted k d)))
