-- The levels of walkable spans in order: one above that of the span before, if that stands in the same column.
use Rattle.std.proofs.Common.{◌≡◌, ℕ, zero, suc, ◌+◌, ◌<◌, ◌≤◌, ◌++◌, Bool, true, false, cond, length, List, [], ◌∷◌, take, drop, map, get_or, Option, Some, refl, sym, ap, ◌∙◌, subst, arith, add-one, inl, inr}
use Rattle.std.specs.Prelude.{All, ◌&&◌, ◌==◌, if◌then◌else◌, slice_get, ◌-◌}
use Rattle.std.specs.List.{count_by}
use Rattle.std.specs.Option.{option_map_or}
use Rattle.std.proofs.lemmas.Bool.{cases_lt, false_from_ne_true, both_ways}
use Rattle.std.proofs.lemmas.List.{get_or-take, get_or-drop, length-take-le, length-drop, map_more, length_push, get_or_push, get_or_default}
use Rattle.std.proofs.lemmas.List.Elements.{All-head, All-tail}
use Rattle.std.proofs.lemmas.List.Sums.{sum_by-take-drop, sum_by-cons, count_by_more_yes}
use Rattle.std.proofs.lemmas.Option.{slice_get-get_or}
use Rattle.nav_ground.specs.declared.field.Span.{Span}
use Rattle.nav_ground.specs.declared.cell.Cell.{Cell}
use Rattle.nav_ground.specs.Column.{stands_above}
use Rattle.nav_ground.specs.Connection.{unconnected_cell}
use Rattle.nav_ground.proofs.Directions.{both_equal, tests_of_equal}
use Rattle.nav_ground.proofs.Found.{count_by-le}
use Rattle.nav_ground.proofs.Walkable.{IsAbove-from_test, test_of_IsAbove, above_from_order}
use Rattle.compact_layer.specs.Making.{level_over}
use Rattle.compact_layer.proofs.Ceilings.{AreSpans, IsBeside, between, none_above}

-- tests that agree count the same, and tests that never pass count none
count_by-same : {X : Type 0} (p q : X → Bool) (xs : List X) → All (λ x. p x ≡ q x) xs → count_by p xs ≡ count_by q xs
count_by-same p q xs each =
    let there = count_by-le p q xs (λ k d within h. sym (each k d within) ∙ h) in
    let back = count_by-le q p xs (λ k d within h. each k d within ∙ h) in
    omega (arith, there, back)

count_by-none : {X : Type 0} (p : X → Bool) (xs : List X) → All (λ x. p x ≡ false) xs → count_by p xs ≡ 0
count_by-none p [] each = refl
count_by-none p (x ∷ xs) each =
    let here : cond (p x) 1 0 ≡ zero = ap (λ b. cond b 1 0) (All-head (λ y. p y ≡ false) x xs each) in
    let later = count_by-none p xs (All-tail (λ y. p y ≡ false) x xs each) in
    rw (sum_by-cons (λ y. cond (p y) 1 0) x xs) (omega (arith, here, later))

same_test : (a b : Bool) → (a ≡ true → b ≡ true) → (b ≡ true → a ≡ true) → a ≡ b
same_test true b there back = sym (there refl)
same_test false true there back = back refl
same_test false false there back = refl

-- the spans under the span at a place all stand before it
count_before : (spans : List Span) (n : ℕ) (d : Span) → AreSpans spans → n < length spans
    → count_by (λ (other : Span). stands_above other (get_or spans n d)) spans ≡ count_by (λ (other : Span). stands_above other (get_or spans n d)) (take n spans)
count_before spans n d rules' there =
    let under = λ (other : Span). stands_above other (get_or spans n d) in
    let parts = sum_by-take-drop (λ other. cond (under other) 1 0) spans n in
    let none = count_by-none under (drop n spans) (λ k e within. none_from k e (omega (arith, within, length-drop n spans))) in
    omega (arith, parts, none)
  where
    none_from : (k : ℕ) (e : Span) → n + k < length spans → stands_above (get_or (drop n spans) k e) (get_or spans n d) ≡ false
    none_from k e within =
        false_from_ne_true (stands_above (get_or (drop n spans) k e) (get_or spans n d))
        (λ h.
        let at = get_or-drop n spans k e ∙ get_or_default spans (n + k) e d within in
        let above = IsAbove-from_test (get_or spans (n + k) d) (get_or spans n d) (ap (λ (s : Span). stands_above s (get_or spans n d)) (sym at) ∙ h) in
        none_above spans (n + k) n d rules' within (omega arith) above)

-- where the span before stands in another column, none stands under
count_first : (spans : List Span) (m : ℕ) (d : Span) → AreSpans spans → m + 1 < length spans
    → (IsBeside (get_or spans m d) (get_or spans (m + 1) d) → ⊥)
    → count_by (λ (other : Span). stands_above other (get_or spans (m + 1) d)) (take (m + 1) spans) ≡ 0
count_first spans m d rules' there apart =
    count_by-none (λ (other : Span). stands_above other (get_or spans (m + 1) d)) (take (m + 1) spans)
    (λ k e within. none_at k e (omega (arith, within, length-take-le (m + 1) spans (omega (arith, there)))))
  where
    none_at : (k : ℕ) (e : Span) → k < m + 1 → stands_above (get_or (take (m + 1) spans) k e) (get_or spans (m + 1) d) ≡ false
    none_at k e below =
        false_from_ne_true (stands_above (get_or (take (m + 1) spans) k e) (get_or spans (m + 1) d))
        (λ h.
        let at = get_or-take (m + 1) spans k e below ∙ get_or_default spans k e d (omega (arith, below, there)) in
        let above = IsAbove-from_test (get_or spans k d) (get_or spans (m + 1) d) (ap (λ (s : Span). stands_above s (get_or spans (m + 1) d)) (sym at) ∙ h) in
        let beside : IsBeside (get_or spans k d) (get_or spans (m + 1) d) = record { x = sym above.x; z = sym above.z } in
        elim (cases_lt k m) [
          | inl before ↦ apart (between spans k m (m + 1) d rules' before (omega arith) there beside)
          | inr rest ↦
              let same : k ≡ m = omega (arith, below, rest) in
              let P : ℕ → Type 0 = λ i. IsBeside (get_or spans i d) (get_or spans (m + 1) d) in
              apart (subst P same beside)
        ])

-- where it stands in the same column, it is one more than stand under it
count_next : (spans : List Span) (m : ℕ) (d : Span) → AreSpans spans → m + 1 < length spans
    → IsBeside (get_or spans m d) (get_or spans (m + 1) d)
    → count_by (λ (other : Span). stands_above other (get_or spans (m + 1) d)) (take (m + 1) spans)
    ≡ count_by (λ (other : Span). stands_above other (get_or spans m d)) (take m spans) + 1
count_next spans m d rules' there beside =
    let a = get_or spans m d in
    let b = get_or spans (m + 1) d in
    let over = above_from_order a b (rules'.order m (m + 1) d (omega arith) there) beside.x beside.z in
    let more = count_by_more_yes (λ (other : Span). stands_above other b) spans m d (omega (arith, there))
    (test_of_IsAbove a b (record { x = sym beside.x; z = sym beside.z; over = over })) in
    let same = count_by-same (λ (other : Span). stands_above other b) (λ (other : Span). stands_above other a) (take m spans)
    (λ k e within. same_at k e (omega (arith, within, length-take-le m spans (omega (arith, there)))) over) in
    omega (arith, more, same)
  where
    same_at : (k : ℕ) (e : Span) → k < m → (get_or spans m d).top ≤ (get_or spans (m + 1) d).bottom
        → stands_above (get_or (take m spans) k e) (get_or spans (m + 1) d) ≡ stands_above (get_or (take m spans) k e) (get_or spans m d)
    same_at k e below over =
        let at = get_or-take m spans k e below ∙ get_or_default spans k e d (omega (arith, below, there)) in
        let s = get_or spans k d in
        let a = get_or spans m d in
        let b = get_or spans (m + 1) d in
        let solid = (rules'.each m d (omega (arith, there))).solid in
        ap (λ (o : Span). stands_above o b) at
        ∙ same_test (stands_above s b) (stands_above s a)
        (λ h.
        let above = IsAbove-from_test s b h in
        let x = beside.x ∙ above.x in
        let z = beside.z ∙ above.z in
        test_of_IsAbove s a (record { x = x; z = z; over = above_from_order s a (rules'.order k m d below (omega (arith, there))) (sym x) (sym z) }))
        (λ h.
        let above = IsAbove-from_test s a h in
        test_of_IsAbove s b (record { x = sym beside.x ∙ above.x; z = sym beside.z ∙ above.z; over = omega (arith, above.over, solid, over) }))
        ∙ ap (λ (o : Span). stands_above o a) (sym at)

-- the level of the cell on a span, from the cells on the spans before
last_of_push : {X : Type 0} (xs : List X) (y : X) → slice_get (xs ++ y ∷ []) (length (xs ++ y ∷ []) - 1) ≡ Some y
last_of_push xs y =
    let long = length_push xs y in
    let last : length xs ≡ length (xs ++ y ∷ []) - 1 = omega (arith, long) in
    slice_get-get_or (xs ++ y ∷ []) (length (xs ++ y ∷ []) - 1) y (omega (arith, long)) ∙ ap Some (get_or_push xs y y (length (xs ++ y ∷ []) - 1) last)

level_by_last : (beside : Bool) (spans walkable : List Span) (m : ℕ) (d : Span) → AreSpans walkable → m + 1 < length walkable
    → beside ≡ ((get_or walkable m d).x == (get_or walkable (m + 1) d).x && (get_or walkable m d).z == (get_or walkable (m + 1) d).z)
    → (if beside then (unconnected_cell spans walkable (get_or walkable m d)).at.level + 1 else 0)
    ≡ (unconnected_cell spans walkable (get_or walkable (m + 1) d)).at.level
level_by_last true spans walkable m d rules' there is =
    let a = get_or walkable m d in
    let b = get_or walkable (m + 1) d in
    let same = both_equal a.x b.x a.z b.z (sym is) in
    let next = count_next walkable m d rules' there (record { x = same.0; z = same.1 }) in
    omega (arith, next, count_before walkable m d rules' (omega (arith, there)), count_before walkable (m + 1) d rules' there)
level_by_last false spans walkable m d rules' there is =
    let a = get_or walkable m d in
    let b = get_or walkable (m + 1) d in
    let first = count_first walkable m d rules' there
    (λ beside. both_ways (a.x == b.x && a.z == b.z) (sym is) (tests_of_equal a.x b.x a.z b.z beside.x beside.z)) in
    sym first ∙ sym (count_before walkable (m + 1) d rules' there)

level_next : (spans walkable : List Span) (m : ℕ) (d : Span) → AreSpans walkable → m + 1 < length walkable
    → level_over (map (unconnected_cell spans walkable) (take (m + 1) walkable)) (get_or walkable (m + 1) d)
    ≡ (unconnected_cell spans walkable (get_or walkable (m + 1) d)).at.level
level_next spans walkable m d rules' there =
    let a = get_or walkable m d in
    let b = get_or walkable (m + 1) d in
    ap (λ (cells : List Cell). level_over cells b) (map_more (unconnected_cell spans walkable) walkable m d (omega (arith, there)))
    ∙ ap (λ (o : Option Cell). option_map_or (λ (last : Cell). if last.at.x == b.x && last.at.z == b.z then last.at.level + 1 else 0) o 0)
    (last_of_push (map (unconnected_cell spans walkable) (take m walkable)) (unconnected_cell spans walkable a))
    ∙ level_by_last (a.x == b.x && a.z == b.z) spans walkable m d rules' there refl

pub level_is : (spans walkable : List Span) (n : ℕ) (d : Span) → AreSpans walkable → n < length walkable
    → level_over (map (unconnected_cell spans walkable) (take n walkable)) (get_or walkable n d)
    ≡ (unconnected_cell spans walkable (get_or walkable n d)).at.level
level_is spans walkable zero d rules' there = sym (count_before walkable 0 d rules' there)
level_is spans walkable (suc m) d rules' there =
    let P : ℕ → Type 0 = λ n. level_over (map (unconnected_cell spans walkable) (take n walkable)) (get_or walkable n d)
    ≡ (unconnected_cell spans walkable (get_or walkable n d)).at.level in
    subst P (add-one m) (level_next spans walkable m d rules' (omega (arith, there)))

-- a level is at most the bottom of its span, since each walkable span below it has some height
pub level_low : (walkable : List Span) (n : ℕ) (d : Span) → AreSpans walkable → n < length walkable
    → count_by (λ (other : Span). stands_above other (get_or walkable n d)) walkable ≤ (get_or walkable n d).bottom
level_low walkable n d rules' there =
    let before = count_before walkable n d rules' there in
    omega (arith, before, low walkable n d rules' there)
  where
    low_next : (beside : Bool) (walkable : List Span) (m : ℕ) (d : Span) → AreSpans walkable → m + 1 < length walkable
        → beside ≡ ((get_or walkable m d).x == (get_or walkable (m + 1) d).x && (get_or walkable m d).z == (get_or walkable (m + 1) d).z)
        → count_by (λ (other : Span). stands_above other (get_or walkable m d)) (take m walkable) ≤ (get_or walkable m d).bottom
        → count_by (λ (other : Span). stands_above other (get_or walkable (m + 1) d)) (take (m + 1) walkable) ≤ (get_or walkable (m + 1) d).bottom
    low_next true walkable m d rules' there is below =
        let a = get_or walkable m d in
        let b = get_or walkable (m + 1) d in
        let same = both_equal a.x b.x a.z b.z (sym is) in
        let next = count_next walkable m d rules' there (record { x = same.0; z = same.1 }) in
        let over = above_from_order a b (rules'.order m (m + 1) d (omega arith) there) same.0 same.1 in
        let solid = (rules'.each m d (omega (arith, there))).solid in
        omega (arith, next, over, solid, below)
    low_next false walkable m d rules' there is below =
        let a = get_or walkable m d in
        let b = get_or walkable (m + 1) d in
        let first = count_first walkable m d rules' there
        (λ beside. both_ways (a.x == b.x && a.z == b.z) (sym is) (tests_of_equal a.x b.x a.z b.z beside.x beside.z)) in
        omega (arith, first)

    low : (walkable : List Span) (n : ℕ) (d : Span) → AreSpans walkable → n < length walkable
        → count_by (λ (other : Span). stands_above other (get_or walkable n d)) (take n walkable) ≤ (get_or walkable n d).bottom
    low walkable zero d rules' there = omega arith
    low walkable (suc m) d rules' there =
        let P : ℕ → Type 0 = λ n. count_by (λ (other : Span). stands_above other (get_or walkable n d)) (take n walkable) ≤ (get_or walkable n d).bottom in
        subst P (add-one m) (low_next _ walkable m d rules' (omega (arith, there)) refl (low walkable m d rules' (omega (arith, there))))
