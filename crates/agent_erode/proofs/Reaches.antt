-- What it is to reach a list of indices one after the other.
use Rattle.std.proofs.Common.{◌≡◌, ℕ, ◌+◌, ◌-◌, ◌<◌, ◌≤◌, Bool, true, false, cond, length, List, [], ◌∷◌, ◌++◌, take, drop, get_or, set, ap, ◌∙◌, sym, refl, arith, inl, inr, ◌⊎◌}
use Rattle.std.specs.Prelude.{◌==◌, ◌&&◌, ◌||◌, not, fold, filter}
use Rattle.std.specs.List.{list_any, flat_map, slice_range, range_with_len}
use Rattle.std.proofs.lemmas.Bool.{eqb-true, eq-eqb, ne_eqb, both_ways, cases_lt, cases_eq, or_cases, or_left, or_right, and_parts, and_from, and_left, and_right, not_from_true, not_from_false, cases_Bool}
use Rattle.std.proofs.lemmas.List.{length-set, get_or-set_same, get_or-set_other, get_or_past, length_push, get_or_push, get_or_append_left, get_or-take, get_or-drop, length-take, length-drop, ext_get_or, take_more, flat_map_more, append-nil}
use Rattle.std.proofs.lemmas.List.Elements.{filter-append}
use Rattle.nav_ground.proofs.Selections.{range-push}
use Rattle.std.proofs.lemmas.List.Folds.{list_any_at, list_any-append}
use Rattle.std.proofs.lemmas.List.Sums.{fold-append}
use Rattle.std.proofs.lemmas.List.FromFn.{length-range_with_len, get_or-range_with_len}
use Rattle.agent_erode.specs.Reaching.{Progress, reached}
use Rattle.agent_erode.proofs.Stages.{is_among}
use Rattle.cell_table.proofs.Places.{same_test}
use Rattle.agent_erode.proofs.Walks.{hit_of}

-- a place in the order, from a first on, with an index
pub record IsAfter (order : List ℕ) (first i : ℕ) : Type 0 where
  pub place : ℕ
  pub least : first ≤ place
  pub most : place < length order
  pub index : get_or order place 0 ≡ i

-- from one progress to a later one indices were reached: those that were kept and are among them are kept no more, and stand, with no
-- others, after the order as it was
pub record IsReach (indices : List ℕ) (old new : Progress) : Type 0 where
  pub long : length new.kept ≡ length old.kept
  pub kept : (i : ℕ) → get_or new.kept i false ≡ (get_or old.kept i false && not (is_among i indices))
  pub grows : length old.order ≤ length new.order
  pub same : (q : ℕ) → q < length old.order → get_or new.order q 0 ≡ get_or old.order q 0
  pub each : (q : ℕ) → length old.order ≤ q → q < length new.order
      → (get_or old.kept (get_or new.order q 0) false ≡ true) × (is_among (get_or new.order q 0) indices ≡ true)
  pub all : (i : ℕ) → get_or old.kept i false ≡ true → is_among i indices ≡ true → IsAfter new.order (length old.order) i

and_true : (x : Bool) → x ≡ (x && true)
and_true true = refl
and_true false = refl

reach_none : (old : Progress) → IsReach [] old old
reach_none old = record {
  long = refl;
  kept = λ i. and_true (get_or old.kept i false);
  grows = omega arith;
  same = λ q before. refl;
  each = λ q least most. absurd (omega (arith, least, most));
  all = λ i was among. absurd (both_ways false refl among);
}

reach_one : (i : ℕ) (old : Progress) → IsReach (i ∷ []) old (reached old i)
reach_one i old = by_kept (get_or old.kept i false) refl
  where
    by_kept : (b : Bool) → b ≡ get_or old.kept i false
        → IsReach (i ∷ []) old (cond b (record { kept = set old.kept i false; order = old.order ++ i ∷ [] }) old)
    by_kept false is = record {
      long = refl;
      kept = λ k. kept_same k (cases_eq i k);
      grows = omega arith;
      same = λ q before. refl;
      each = λ q least most. absurd (omega (arith, least, most));
      all = λ k was among. absurd (both_ways (get_or old.kept i false) (sym is) (ap (λ n. get_or old.kept n false) (only k among) ∙ was));
    }
      where
        kept_same : (k : ℕ) → (i ≡ k) ⊎ (i ≡ k → ⊥) → get_or old.kept k false ≡ (get_or old.kept k false && not ((i == k) || false))
        kept_same k (inl same) =
            let no : get_or old.kept k false ≡ false = ap (λ n. get_or old.kept n false) (sym same) ∙ sym is in
            no ∙ sym (and_left (get_or old.kept k false) _ no)
        kept_same k (inr apart) = and_true (get_or old.kept k false) ∙ ap (λ b. get_or old.kept k false && not (b || false)) (sym (ne_eqb i k apart))

        only : (k : ℕ) → is_among k (i ∷ []) ≡ true → i ≡ k
        only k among = elim (or_cases (i == k) false among) [ inl same ↦ eqb-true i k same | inr none ↦ absurd (both_ways false refl none) ]
    by_kept true is =
        let inside : i < length old.kept = inside_of (cases_lt i (length old.kept)) in
        record {
          long = length-set old.kept i false;
          kept = λ k. kept_less inside k (cases_eq i k);
          grows = omega (arith, length_push old.order i);
          same = λ q before. get_or_append_left old.order (i ∷ []) 0 q before;
          each = λ q least most.
              let here : length old.order ≡ q = omega (arith, length_push old.order i, least, most) in
              let at = get_or_push old.order i 0 q here in
              (ap (λ n. get_or old.kept n false) at ∙ sym is, ap (λ n. is_among n (i ∷ [])) at ∙ or_left (i == i) false (eq-eqb i i refl));
          all = λ k was among. record {
            place = length old.order;
            least = omega arith;
            most = omega (arith, length_push old.order i);
            index = get_or_push old.order i 0 (length old.order) refl ∙ only k among;
          };
        }
      where
        inside_of : (i < length old.kept) ⊎ (length old.kept ≤ i) → i < length old.kept
        inside_of (inl below) = below
        inside_of (inr past) = absurd (both_ways (get_or old.kept i false) (get_or_past old.kept i false past) (sym is))

        kept_less : i < length old.kept → (k : ℕ) → (i ≡ k) ⊎ (i ≡ k → ⊥)
            → get_or (set old.kept i false) k false ≡ (get_or old.kept k false && not ((i == k) || false))
        kept_less inside k (inl same) =
            ap (λ n. get_or (set old.kept i false) n false) (sym same) ∙ get_or-set_same old.kept i false false inside
            ∙ sym (and_right (get_or old.kept k false) (not ((i == k) || false)) (not_from_true _ (or_left (i == k) false (eq-eqb i k same))))
        kept_less inside k (inr apart) =
            get_or-set_other old.kept i k false false (λ same. apart (sym same))
            ∙ and_true (get_or old.kept k false) ∙ ap (λ b. get_or old.kept k false && not (b || false)) (sym (ne_eqb i k apart))

        only : (k : ℕ) → is_among k (i ∷ []) ≡ true → i ≡ k
        only k among = elim (or_cases (i == k) false among) [ inl same ↦ eqb-true i k same | inr none ↦ absurd (both_ways false refl none) ]

reach_both : (is js : List ℕ) (old mid new : Progress) → IsReach is old mid → IsReach js mid new → IsReach (is ++ js) old new
reach_both is js old mid new first second = record {
  long = second.long ∙ first.long;
  kept = λ i. second.kept i ∙ ap (λ b. b && not (is_among i js)) (first.kept i)
      ∙ neither (get_or old.kept i false) (is_among i is) (is_among i js) ∙ ap (λ b. get_or old.kept i false && not b) (sym (both i));
  grows = omega (arith, first.grows, second.grows);
  same = λ q before. second.same q (omega (arith, before, first.grows)) ∙ first.same q before;
  each = λ q least most. elim (cases_lt q (length mid.order)) [
    | inl early ↦
        let at = second.same q early in
        let was = first.each q least early in (
          ap (λ n. get_or old.kept n false) at ∙ was.0,
          ap (λ n. is_among n (is ++ js)) at ∙ both (get_or mid.order q 0) ∙ or_left _ _ was.1,
        )
    | inr late ↦
        let was = second.each q late most in
        let i = get_or new.order q 0 in
        ((and_parts (get_or old.kept i false) _ (sym (first.kept i) ∙ was.0)).0, both i ∙ or_right _ _ was.1)
  ];
  all = λ i was among. elim (cases_Bool (is_among i is)) [
    | inl early ↦ from_first (first.all i was early)
    | inr late ↦ from_second (second.all i (first.kept i ∙ and_from _ _ was (not_from_false _ late))
        (later (is_among i is) (is_among i js) late (sym (both i) ∙ among)))
  ];
}
  where
    neither : (a x y : Bool) → ((a && not x) && not y) ≡ (a && not (x || y))
    neither true true y = refl
    neither true false y = refl
    neither false x y = refl

    both : (i : ℕ) → is_among i (is ++ js) ≡ (is_among i is || is_among i js)
    both i = list_any-append (λ index. index == i) is js

    later : (x y : Bool) → x ≡ false → (x || y) ≡ true → y ≡ true
    later x y none h = ap (λ b. b || y) (sym none) ∙ h

    from_first : {i : ℕ} → IsAfter mid.order (length old.order) i → IsAfter new.order (length old.order) i
    from_first after = record {
      place = after.place;
      least = after.least;
      most = omega (arith, after.most, second.grows);
      index = second.same after.place after.most ∙ after.index;
    }

    from_second : {i : ℕ} → IsAfter new.order (length mid.order) i → IsAfter new.order (length old.order) i
    from_second after = record {
      place = after.place;
      least = omega (arith, after.least, first.grows);
      most = after.most;
      index = after.index;
    }

-- indices one after the other
pub reach_all : (indices : List ℕ) (old : Progress) → IsReach indices old (fold reached old indices)
reach_all [] old = reach_none old
reach_all (i ∷ is) old = reach_both (i ∷ []) is old (reached old i) (fold reached (reached old i) is) (reach_one i old) (reach_all is (reached old i))

-- an index among those that a function gives for the indices in a part of a list
pub record IsFrom (f : ℕ → List ℕ) (xs : List ℕ) (first end i : ℕ) : Type 0 where
  pub place : ℕ
  pub least : first ≤ place
  pub most : place < end
  pub among : is_among i (f (get_or xs place 0)) ≡ true

-- an index among those of a list of lists
flat_hit : (f : ℕ → List ℕ) (xs : List ℕ) (i : ℕ) → is_among i (flat_map f xs) ≡ list_any (λ x. is_among i (f x)) xs
flat_hit f [] i = refl
flat_hit f (x ∷ xs) i = list_any-append (λ index. index == i) (f x) (flat_map f xs) ∙ ap (λ b. is_among i (f x) || b) (flat_hit f xs i)

-- an element of a part of a list
part_at : (xs : List ℕ) (first end k : ℕ) → first + k < end → get_or (slice_range xs first end) k 0 ≡ get_or xs (first + k) 0
part_at xs first end k below = get_or-take (end - first) (drop first xs) k 0 (omega (arith, below)) ∙ get_or-drop first xs k 0

pub among_flat : (f : ℕ → List ℕ) (xs : List ℕ) (first end i : ℕ) → is_among i (flat_map f (slice_range xs first end)) ≡ true
    → end ≤ length xs → IsFrom f xs first end i
among_flat f xs first end i h most =
    let hit = hit_of (λ x. is_among i (f x)) (slice_range xs first end) 0 (sym (flat_hit f (slice_range xs first end) i) ∙ h) in
    let below : first + hit.index < end = omega (arith, hit.there, length-take (end - first) (drop first xs), length-drop first xs, most) in
    record {
      place = first + hit.index;
      least = omega arith;
      most = below;
      among = ap (λ x. is_among i (f x)) (sym (part_at xs first end hit.index below)) ∙ hit.passes;
    }

pub flat_among : (f : ℕ → List ℕ) (xs : List ℕ) (first end i : ℕ) → end ≤ length xs → IsFrom f xs first end i
    → is_among i (flat_map f (slice_range xs first end)) ≡ true
flat_among f xs first end i most from =
    let k : ℕ = from.place - first in
    let is : first + k ≡ from.place = omega (arith, from.least) in
    let at : get_or (slice_range xs first end) k 0 ≡ get_or xs from.place 0 =
    part_at xs first end k (omega (arith, is, from.most)) ∙ ap (λ n. get_or xs n 0) is in
    flat_hit f (slice_range xs first end) i
    ∙ list_any_at (λ x. is_among i (f x)) (slice_range xs first end) k 0
    (omega (arith, is, from.most, most, length-take (end - first) (drop first xs), length-drop first xs))
    (ap (λ x. is_among i (f x)) at ∙ from.among)

-- an index among those that pass a test
any_filter : (p : ℕ → Bool) (xs : List ℕ) (i : ℕ) → is_among i (filter p xs) ≡ list_any (λ x. p x && (x == i)) xs
any_filter p [] i = refl
any_filter p (x ∷ xs) i =
    let rest = any_filter p xs i in
    elim (p x) as (λ b. is_among i (cond b (x ∷ filter p xs) (filter p xs)) ≡ ((b && (x == i)) || list_any (λ y. p y && (y == i)) xs))
    [ true ↦ ap (λ b. (x == i) || b) rest | false ↦ rest ]

-- an index among those of a range that pass a test
pub among_filter : (p : ℕ → Bool) (count i : ℕ) → i < count → is_among i (filter p (range_with_len 0 count)) ≡ p i
among_filter p count i there =
    any_filter p (range_with_len 0 count) i ∙ same_test _ _
    (λ h.
    let hit = hit_of (λ x. p x && (x == i)) (range_with_len 0 count) 0 h in
    let below : hit.index < count = omega (arith, hit.there, length-range_with_len 0 count) in
    let at : get_or (range_with_len 0 count) hit.index 0 ≡ hit.index = get_or-range_with_len 0 count hit.index 0 below ∙ omega arith in
    let passes : (p hit.index && (hit.index == i)) ≡ true = ap (λ x. p x && (x == i)) (sym at) ∙ hit.passes in
    let parts = and_parts (p hit.index) _ passes in
    ap p (sym (eqb-true hit.index i parts.1)) ∙ parts.0)
    (λ h.
    let at : get_or (range_with_len 0 count) i 0 ≡ i = get_or-range_with_len 0 count i 0 there ∙ omega arith in
    list_any_at (λ x. p x && (x == i)) (range_with_len 0 count) i 0 (omega (arith, there, length-range_with_len 0 count))
    (ap (λ x. p x && (x == i)) at ∙ and_from _ _ h (eq-eqb i i refl)))

-- a part of a list that another begins with
pub slice_same : (xs ys : List ℕ) (first end : ℕ) → end ≤ length xs → length xs ≤ length ys
    → ((q : ℕ) → q < length xs → get_or ys q 0 ≡ get_or xs q 0) → slice_range ys first end ≡ slice_range xs first end
slice_same xs ys first end most grows same =
    ext_get_or 0 (slice_range ys first end) (slice_range xs first end)
    (omega (arith, length-take (end - first) (drop first xs), length-drop first xs, length-take (end - first) (drop first ys), length-drop first ys, most, grows))
    (λ k there.
    let below : first + k < end = omega (arith, there, length-take (end - first) (drop first ys), length-drop first ys, most, grows) in
    part_at ys first end k below ∙ same (first + k) (omega (arith, below, most)) ∙ sym (part_at xs first end k below))

-- one more place of a part
pub flat_more : (f : ℕ → List ℕ) (xs : List ℕ) (first end : ℕ) → first ≤ end → end < length xs
    → flat_map f (slice_range xs first (end + 1)) ≡ flat_map f (slice_range xs first end) ++ f (get_or xs end 0)
flat_more f xs first end some there =
    let one : (end + 1) - first ≡ (end - first) + 1 = omega (arith, some) in
    let at : get_or (drop first xs) (end - first) 0 ≡ get_or xs end 0 =
    get_or-drop first xs (end - first) 0 ∙ ap (λ n. get_or xs n 0) (omega (arith, some)) in
    ap (λ n. flat_map f (take n (drop first xs))) one
    ∙ ap (flat_map f) (take_more (drop first xs) (end - first) 0 (omega (arith, length-drop first xs, there, some))
    ∙ ap (λ x. take (end - first) (drop first xs) ++ x ∷ []) at)
    ∙ sym (flat_map_more f [] (take (end - first) (drop first xs)) (get_or xs end 0))

-- one more cell whose steps are taken
pub step_more : (f : ℕ → List ℕ) (begun old new : Progress) (first place from : ℕ) → first ≤ place → place < length begun.order
    → old ≡ fold reached begun (flat_map f (slice_range begun.order first place)) → from ≡ get_or old.order place 0
    → new ≡ fold reached old (f from) → new ≡ fold reached begun (flat_map f (slice_range begun.order first (place + 1)))
step_more f begun old new first place from some there so_far is one =
    let before = flat_map f (slice_range begun.order first place) in
    let here : from ≡ get_or begun.order place 0 =
    is ∙ ap (λ (p : Progress). get_or p.order place 0) so_far ∙ (reach_all before begun).same place there in
    one ∙ ap (λ (p : Progress). fold reached p (f from)) so_far ∙ sym (fold-append reached begun before (f from))
    ∙ ap (λ n. fold reached begun (before ++ f n)) here ∙ ap (fold reached begun) (sym (flat_more f begun.order first place some there))

-- the order as it was is the beginning of the later one
pub order_grows : (indices : List ℕ) (begun old : Progress) → old ≡ fold reached begun indices → length begun.order ≤ length old.order
order_grows indices begun old is = omega (arith, (reach_all indices begun).grows, ap (λ (p : Progress). length p.order) is)

-- one more number of a range, which passes a test or not
pub range_more : (p : ℕ → Bool) (begun old new : Progress) (i : ℕ) → p i ≡ true → old ≡ fold reached begun (filter p (range_with_len 0 i))
    → new ≡ reached old i → new ≡ fold reached begun (filter p (range_with_len 0 (i + 1)))
range_more p begun old new i passes so_far one =
    one ∙ ap (λ (s : Progress). reached s i) so_far
    ∙ sym (fold-append reached begun (filter p (range_with_len 0 i)) (i ∷ []))
    ∙ ap (λ b. fold reached begun (filter p (range_with_len 0 i) ++ cond b (i ∷ []) [])) (sym passes)
    ∙ ap (λ n. fold reached begun (filter p (range_with_len 0 i) ++ filter p (n ∷ []))) (omega arith)
    ∙ ap (fold reached begun) (sym (filter-append p (range_with_len 0 i) ((0 + i) ∷ [])))
    ∙ ap (λ (ns : List ℕ). fold reached begun (filter p ns)) (sym (range-push 0 i))

pub range_less : (p : ℕ → Bool) (begun old : Progress) (i : ℕ) → p i ≡ false → old ≡ fold reached begun (filter p (range_with_len 0 i))
    → old ≡ fold reached begun (filter p (range_with_len 0 (i + 1)))
range_less p begun old i fails so_far =
    so_far ∙ ap (fold reached begun) (sym (append-nil (filter p (range_with_len 0 i))))
    ∙ ap (λ b. fold reached begun (filter p (range_with_len 0 i) ++ cond b (i ∷ []) [])) (sym fails)
    ∙ ap (λ n. fold reached begun (filter p (range_with_len 0 i) ++ filter p (n ∷ []))) (omega arith)
    ∙ ap (fold reached begun) (sym (filter-append p (range_with_len 0 i) ((0 + i) ∷ [])))
    ∙ ap (λ (ns : List ℕ). fold reached begun (filter p ns)) (sym (range-push 0 i))
