-- Spans in order: their columns and places rise, and what stands directly above and below a span is beside it in the list.
use Rattle.std.proofs.Common.{◌≡◌, ℕ, ◌+◌, ◌<◌, ◌≤◌, Bool, true, false, length, List, [], ◌∷◌, ◌++◌, take, drop, get_or, cond, ap, ◌∙◌, sym, refl, subst, Option, Some, None, arith, zero, suc, inl, inr}
use Rattle.std.specs.Prelude.{All, filter}
use Rattle.std.specs.List.{find, last_or}
use Rattle.std.specs.Option.{option_map_or, option_or}
use Rattle.std.proofs.lemmas.Bool.{cases_lt, false_from_ne_true, ne_eqb, eq-eqb, eqb-true}
use Rattle.std.proofs.lemmas.Bool.Decides.{nat_tests}
use Rattle.std.proofs.lemmas.List.{append-nil, get_or-take, get_or-drop, get_or_default, length-take-le, length-drop, take-append-drop, drop_more, drop_all}
use Rattle.std.proofs.lemmas.List.Elements.{All-head, All-tail, All-weaker, filter-append, filter_more}
use Rattle.std.proofs.lemmas.List.Folds.{find-append}
use Rattle.nav_ground.specs.declared.field.Span.{Span}
use Rattle.nav_ground.specs.declared.field.Field.{Field}
use Rattle.nav_ground.specs.Cells.{is_toward}
use Rattle.nav_ground.specs.Column.{stands_above, span_above, span_below, ceiling_of, foot_of, column_toward}
use Rattle.nav_ground.specs.Fields.{IsField, IsSpan, IsSpanBefore}
use Rattle.nav_ground.proofs.Directions.{both_equal, tests_of_equal}
use Rattle.nav_ground.proofs.Selections.{filter_none}
use Rattle.span_filters.specs.Columns.{AreSpans, IsSameColumn, IsPassed, column_of, column_beside, is_in, place_of, start_of, floor_over}

-- the spans of a field
pub spans_of_field : (field : Field) → IsField field → AreSpans field.spans
spans_of_field field rules' = record {
  few = rules'.few;
  each = All-weaker (IsSpan field.width field.depth) (IsSpan 1024 1024)
      (λ s is. record { x = omega (arith, is.x, rules'.width); z = omega (arith, is.z, rules'.depth); solid = is.solid; top = is.top; area = is.area })
      field.spans rules'.spans;
  order = rules'.order;
}

-- and of the list that the code reads them from
pub spans_read : (field : Field) (spans : List Span) → IsField field → spans ≡ field.spans → AreSpans spans
spans_read field spans rules' same = subst AreSpans (sym same) (spans_of_field field rules')

-- two spans in order: the first begins at an earlier place, in no later column, and in one column ends before the other begins
start_rises : (a b : Span) → IsSpan 1024 1024 a → IsSpan 1024 1024 b → IsSpanBefore a b → start_of a < start_of b
start_rises a b pa pb (inl below) = omega (arith, below, pa.x, pa.solid, pa.top)
start_rises a b pa pb (inr (same, inl left)) = omega (arith, same, left, pa.solid, pa.top)
start_rises a b pa pb (inr (same, inr (same', under))) = omega (arith, same, same', under, pa.solid)

column_rises : (a b : Span) → IsSpan 1024 1024 a → IsSpan 1024 1024 b → IsSpanBefore a b → column_of a ≤ column_of b
column_rises a b pa pb (inl below) = omega (arith, below, pa.x)
column_rises a b pa pb (inr (same, inl left)) = omega (arith, same, left)
column_rises a b pa pb (inr (same, inr (same', under))) = omega (arith, same, same')

pub stacked : (a b : Span) → IsSpan 1024 1024 a → IsSpan 1024 1024 b → IsSpanBefore a b → column_of a ≡ column_of b → a.top ≤ b.bottom
stacked a b pa pb (inl below) column = absurd (omega (arith, below, pa.x, column))
stacked a b pa pb (inr (same, inl left)) column = absurd (omega (arith, same, left, column))
stacked a b pa pb (inr (same, inr (same', under))) column = under

pub columns_rise : (spans : List Span) (i j : ℕ) (d : Span) → AreSpans spans → i ≤ j → j < length spans
    → column_of (get_or spans i d) ≤ column_of (get_or spans j d)
columns_rise spans i j d rules' later there = elim (cases_lt i j) [
  | inl less ↦ column_rises _ _ (rules'.each i d (omega arith)) (rules'.each j d there) (rules'.order i j d less there)
  | inr more ↦
      let P : ℕ → Type 0 = λ k. column_of (get_or spans i d) ≤ column_of (get_or spans k d) in
      let same : i ≡ j = omega arith in
      subst P same (omega arith)
]

-- the spans from one on that does not begin before a place
pub starts_after : (spans : List Span) (n place : ℕ) (e : Span) → AreSpans spans → n < length spans → place ≤ start_of (get_or spans n e)
    → (k : ℕ) (d : Span) → n ≤ k → k < length spans → place ≤ start_of (get_or spans k d)
starts_after spans n place e rules' there here k d later there' =
    let same = ap start_of (get_or_default spans n e d there) in
    elim (cases_lt n k) [
      | inl less ↦
          let rises = start_rises _ _ (rules'.each n d there) (rules'.each k d there') (rules'.order n k d less there') in
          omega (arith, same, rises, here)
      | inr more ↦
          let P : ℕ → Type 0 = λ m. place ≤ start_of (get_or spans m d) in
          let at : n ≡ k = omega arith in
          subst P at (omega (arith, same, here))
    ]

-- a test that none of the elements in a part of a list passes
none_before : {A : Type 0} (p : A → Bool) (xs : List A) (n : ℕ) → n ≤ length xs → ((k : ℕ) (d : A) → k < n → p (get_or xs k d) ≡ false)
    → All (λ x. p x ≡ false) (take n xs)
none_before {A = A} p xs n most each k d there =
    let fewer = length-take-le n xs most in
    let P : A → Type 0 = λ x. p x ≡ false in
    subst P (sym (get_or-take n xs k d (omega (arith, fewer, there)))) (each k d (omega (arith, fewer, there)))

none_from : {A : Type 0} (p : A → Bool) (xs : List A) (n : ℕ) → ((k : ℕ) (d : A) → n ≤ k → k < length xs → p (get_or xs k d) ≡ false)
    → All (λ x. p x ≡ false) (drop n xs)
none_from {A = A} p xs n each k d there =
    let P : A → Type 0 = λ x. p x ≡ false in
    let there' : n + k < length xs = omega (arith, there, length-drop n xs) in
    subst P (sym (get_or-drop n xs k d)) (each (n + k) d (omega arith) there')

-- no span of a column past one of a later column, nor before one of an earlier column
pub none_in_later : (spans : List Span) (n column : ℕ) → AreSpans spans
    → ((d : Span) → n < length spans → column < column_of (get_or spans n d)) → filter (is_in column) (drop n spans) ≡ []
none_in_later spans n column rules' later = filter_none (is_in column) (drop n spans) (none_from (is_in column) spans n (λ k d above there.
    let first = later d (omega arith) in
    let rises = columns_rise spans n k d rules' above there in
    ne_eqb _ _ (λ same. absurd (omega (arith, first, rises, same)))))

none_in_earlier : (spans : List Span) (m column : ℕ) (e : Span) → AreSpans spans → m < length spans
    → column_of (get_or spans m e) < column → filter (is_in column) (take (m + 1) spans) ≡ []
none_in_earlier spans m column e rules' there earlier =
    filter_none (is_in column) (take (m + 1) spans) (none_before (is_in column) spans (m + 1) (omega arith) (λ k d before.
    let same = ap column_of (get_or_default spans m e d there) in
    let rises = columns_rise spans k m d rules' (omega (arith, before)) there in
    ne_eqb _ _ (λ is. absurd (omega (arith, same, rises, is, earlier)))))

floor_push : (floor : Option ℕ) (column : List Span) (span : Span) → floor_over floor (column ++ span ∷ []) ≡ Some span.top
floor_push floor [] span = refl
floor_push floor (s ∷ column) span = floor_push (Some s.top) column span

-- the floor over the first m + 1 spans, where the last of them lies in the column, and where it does not
pub floor_last : (spans : List Span) (m column : ℕ) (d : Span) → m < length spans → column_of (get_or spans m d) ≡ column
    → Some (get_or spans m d).top ≡ floor_over None (filter (is_in column) (take (m + 1) spans))
floor_last spans m column d there same =
    sym (ap (floor_over None) (filter_more (is_in column) spans m d there)
    ∙ ap (λ b. floor_over None (filter (is_in column) (take m spans) ++ cond b (get_or spans m d ∷ []) [])) (eq-eqb _ _ same)
    ∙ floor_push None (filter (is_in column) (take m spans)) (get_or spans m d))

pub floor_none : (spans : List Span) (m column : ℕ) (d : Span) → AreSpans spans → m < length spans
    → start_of (get_or spans m d) < place_of (column + 1) 0 → (column_of (get_or spans m d) ≡ column → ⊥)
    → None ≡ floor_over None (filter (is_in column) (take (m + 1) spans))
floor_none spans m column d rules' there before apart =
    let earlier : column_of (get_or spans m d) < column = omega (arith, before, apart) in
    sym (ap (floor_over None) (none_in_earlier spans m column d rules' there earlier))

-- what a span that stands above another is
above_parts : (a b : Span) → stands_above a b ≡ true → (b.x ≡ a.x) × (b.z ≡ a.z) × (a.top ≤ b.bottom)
above_parts a b h = grind (arith, nat_tests)

is_above : (a b : Span) → b.x ≡ a.x → b.z ≡ a.z → a.top ≤ b.bottom → stands_above a b ≡ true
is_above a b x z over = grind (arith, nat_tests)

not_above : (a b : Span) → (column_of b ≡ column_of a → a.top ≤ b.bottom → ⊥) → stands_above a b ≡ false
not_above a b apart = false_from_ne_true (stands_above a b) (λ h.
    let parts = above_parts a b h in apart (omega (arith, parts.0, parts.1)) parts.2)

-- a span does not stand above one that comes after it, nor above itself
not_above_later : (spans : List Span) (i k : ℕ) (e d : Span) → AreSpans spans → i < length spans → k ≤ i
    → stands_above (get_or spans i e) (get_or spans k d) ≡ false
not_above_later spans i k e d rules' there earlier =
    let at = get_or_default spans i e d there in
    let P : Span → Type 0 = λ (s : Span). stands_above s (get_or spans k d) ≡ false in
    subst P (sym at) (not_above (get_or spans i d) (get_or spans k d) (λ column over.
    let pi = rules'.each i d there in
    elim (cases_lt k i) [
      | inl less ↦
          let pk = rules'.each k d (omega arith) in
          let under = stacked _ _ pk pi (rules'.order k i d less there) column in
          omega (arith, under, over, pi.solid, pk.solid)
      | inr more ↦
          let Q : ℕ → Type 0 = λ n. (get_or spans i d).top ≤ (get_or spans n d).bottom in
          let same : k ≡ i = omega arith in
          let self' = subst Q same over in
          omega (arith, self', pi.solid)
    ]))

last_push : {A : Type 0} (o : Option A) (xs : List A) (x : A) → last_or o (xs ++ x ∷ []) ≡ Some x
last_push o [] x = refl
last_push o (y ∷ ys) x = last_push (Some y) ys x

append-empty : {A : Type 0} (xs ys : List A) → ys ≡ [] → xs ++ ys ≡ xs
append-empty xs ys none = ap (λ zs. xs ++ zs) none ∙ append-nil xs

-- the spans that stand below one are before it in the list
below_part : (spans : List Span) (i : ℕ) (d : Span) → AreSpans spans → i < length spans
    → span_below spans (get_or spans i d) ≡ last_or None (filter (λ (other : Span). stands_above other (get_or spans i d)) (take i spans))
below_part spans i d rules' there =
    let p : Span → Bool = λ (other : Span). stands_above other (get_or spans i d) in
    ap (λ xs. last_or None (filter p xs)) (sym (take-append-drop i spans))
    ∙ ap (last_or None) (filter-append p (take i spans) (drop i spans)
    ∙ append-empty (filter p (take i spans)) (filter p (drop i spans)) (filter_none p (drop i spans)
    (none_from p spans i (λ k e above there'. not_above_later spans k i e d rules' there' above))))

-- the first span of all has none below it
pub none_below_first : (spans : List Span) (d : Span) → AreSpans spans → 0 < length spans → None ≡ span_below spans (get_or spans 0 d)
none_below_first spans d rules' there = sym (below_part spans 0 d rules' there)

-- the span before one in the list is the one below it where both lie in one column, and else there is none
pub below_is : (spans : List Span) (m : ℕ) (d e : Span) → AreSpans spans → m + 1 < length spans
    → IsSameColumn (get_or spans m e) (get_or spans (m + 1) e) → Some (get_or spans m e) ≡ span_below spans (get_or spans (m + 1) d)
below_is spans m d e rules' there same =
    let p : Span → Bool = λ (other : Span). stands_above other (get_or spans (m + 1) d) in
    let at = get_or_default spans (m + 1) e d there in
    let pe = rules'.each m e (omega arith) in
    let pd = rules'.each (m + 1) e there in
    let over : (get_or spans m e).top ≤ (get_or spans (m + 1) e).bottom =
    stacked _ _ pe pd (rules'.order m (m + 1) e (omega arith) there) (omega (arith, same.0, same.1)) in
    let passes : p (get_or spans m e) ≡ true =
    ap (stands_above (get_or spans m e)) (sym at) ∙ is_above (get_or spans m e) (get_or spans (m + 1) e) (sym same.0) (sym same.1) over in
    sym (below_part spans (m + 1) d rules' there
    ∙ ap (last_or None) (filter_more p spans m e (omega arith))
    ∙ ap (λ b. last_or None (filter p (take m spans) ++ cond b (get_or spans m e ∷ []) [])) passes
    ∙ last_push None (filter p (take m spans)) (get_or spans m e))

pub none_below : (spans : List Span) (m : ℕ) (d e : Span) → AreSpans spans → m + 1 < length spans
    → (IsSameColumn (get_or spans m e) (get_or spans (m + 1) e) → ⊥) → None ≡ span_below spans (get_or spans (m + 1) d)
none_below spans m d e rules' there apart =
    let p : Span → Bool = λ (other : Span). stands_above other (get_or spans (m + 1) d) in
    let pe = rules'.each m e (omega arith) in
    let pd = rules'.each (m + 1) e there in
    let rises = column_rises _ _ pe pd (rules'.order m (m + 1) e (omega arith) there) in
    let differs : column_of (get_or spans m e) ≡ column_of (get_or spans (m + 1) e) → ⊥ =
    λ column. apart (omega (arith, column, pe.x, pd.x), omega (arith, column, pe.x, pd.x)) in
    let earlier : column_of (get_or spans m e) < column_of (get_or spans (m + 1) e) = omega (arith, rises, differs) in
    sym (below_part spans (m + 1) d rules' there
    ∙ ap (last_or None) (filter_none p (take (m + 1) spans) (none_before p spans (m + 1) (omega arith) (λ k f before.
    let at = ap column_of (get_or_default spans m f e (omega arith)) in
    let at' = ap column_of (get_or_default spans (m + 1) d e there) in
    let at'' = ap column_of (get_or_default spans k f e (omega (arith, before))) in
    let rises' = columns_rise spans k m e rules' (omega (arith, before)) (omega arith) in
    not_above (get_or spans k f) (get_or spans (m + 1) d) (λ column over. absurd (omega (arith, at', at'', rises', earlier, column)))))))

-- the same where the place in the list is one more than another
pub below_is_at : (spans : List Span) (i m : ℕ) (d e : Span) → i ≡ m + 1 → AreSpans spans → i < length spans
    → IsSameColumn (get_or spans m e) (get_or spans i e) → Some (get_or spans m e) ≡ span_below spans (get_or spans i d)
below_is_at spans i m d e at rules' =
    let P : ℕ → Type 0 = λ n. n < length spans → IsSameColumn (get_or spans m e) (get_or spans n e)
    → Some (get_or spans m e) ≡ span_below spans (get_or spans n d) in
    subst P (sym at) (below_is spans m d e rules')

pub none_below_at : (spans : List Span) (i m : ℕ) (d e : Span) → i ≡ m + 1 → AreSpans spans → i < length spans
    → (IsSameColumn (get_or spans m e) (get_or spans i e) → ⊥) → None ≡ span_below spans (get_or spans i d)
none_below_at spans i m d e at rules' =
    let P : ℕ → Type 0 = λ n. n < length spans → (IsSameColumn (get_or spans m e) (get_or spans n e) → ⊥)
    → None ≡ span_below spans (get_or spans n d) in
    subst P (sym at) (none_below spans m d e rules')

pub none_below_at_first : (spans : List Span) (i : ℕ) (d : Span) → i ≡ 0 → AreSpans spans → i < length spans → None ≡ span_below spans (get_or spans i d)
none_below_at_first spans i d at rules' =
    let P : ℕ → Type 0 = λ n. n < length spans → None ≡ span_below spans (get_or spans n d) in
    subst P (sym at) (none_below_first spans d rules')

pub floor_last_at : (spans : List Span) (n m column : ℕ) (d : Span) → n ≡ m + 1 → n ≤ length spans → column_of (get_or spans m d) ≡ column
    → Some (get_or spans m d).top ≡ floor_over None (filter (is_in column) (take n spans))
floor_last_at spans n m column d at most same =
    let P : ℕ → Type 0 = λ k. Some (get_or spans m d).top ≡ floor_over None (filter (is_in column) (take k spans)) in
    subst P (sym at) (floor_last spans m column d (omega arith) same)

pub floor_none_at : (spans : List Span) (n m column : ℕ) (d : Span) → n ≡ m + 1 → AreSpans spans → IsPassed spans n (place_of (column + 1) 0)
    → (column_of (get_or spans m d) ≡ column → ⊥) → None ≡ floor_over None (filter (is_in column) (take n spans))
floor_none_at spans n m column d at rules' passed apart =
    let P : ℕ → Type 0 = λ k. None ≡ floor_over None (filter (is_in column) (take k spans)) in
    let there : m < length spans = omega (arith, at, passed.most) in
    subst P (sym at) (floor_none spans m column d rules' there (passed.before m d (omega (arith, at))) apart)

-- a test that no element passes finds none
find_none : {A : Type 0} (p : A → Bool) (xs : List A) → All (λ x. p x ≡ false) xs → find p xs ≡ None
find_none p [] each = refl
find_none p (x ∷ xs) each =
    ap (λ b. cond b (Some x) (find p xs)) (All-head (λ y. p y ≡ false) x xs each)
    ∙ find_none p xs (All-tail (λ y. p y ≡ false) x xs each)

-- the spans that stand above one are after it in the list
above_part : (spans : List Span) (i : ℕ) (d : Span) → AreSpans spans → i < length spans
    → span_above spans (get_or spans i d) ≡ find (stands_above (get_or spans i d)) (drop (i + 1) spans)
above_part spans i d rules' there =
    let p : Span → Bool = stands_above (get_or spans i d) in
    ap (find p) (sym (take-append-drop (i + 1) spans))
    ∙ find-append p (take (i + 1) spans) (drop (i + 1) spans)
    ∙ ap (λ o. option_or o (find p (drop (i + 1) spans))) (find_none p (take (i + 1) spans)
    (none_before p spans (i + 1) (omega arith) (λ k e before. not_above_later spans i k d e rules' there (omega (arith, before)))))

-- the last span of all has open sky above it
pub open_above_last : (spans : List Span) (i : ℕ) (d : Span) → AreSpans spans → i + 1 ≡ length spans → 65535 ≡ ceiling_of spans (get_or spans i d)
open_above_last spans i d rules' last =
    let none = above_part spans i d rules' (omega arith) ∙ ap (find (stands_above (get_or spans i d))) (drop_all (i + 1) spans (omega arith)) in
    sym (ap (λ o. option_map_or (λ (s : Span). s.bottom) o 65535) none)

-- the span after one in the list is the one above it where both lie in one column, and else there is none
pub ceiling_is : (spans : List Span) (i : ℕ) (d e : Span) → AreSpans spans → i + 1 < length spans
    → IsSameColumn (get_or spans i e) (get_or spans (i + 1) e) → (get_or spans (i + 1) e).bottom ≡ ceiling_of spans (get_or spans i d)
ceiling_is spans i d e rules' there same =
    let p : Span → Bool = stands_above (get_or spans i d) in
    let at = get_or_default spans i d e (omega arith) in
    let pe = rules'.each i e (omega arith) in
    let pd = rules'.each (i + 1) e there in
    let over : (get_or spans i e).top ≤ (get_or spans (i + 1) e).bottom =
    stacked _ _ pe pd (rules'.order i (i + 1) e (omega arith) there) (omega (arith, same.0, same.1)) in
    let passes : p (get_or spans (i + 1) e) ≡ true =
    ap (λ (s : Span). stands_above s (get_or spans (i + 1) e)) at ∙ is_above (get_or spans i e) (get_or spans (i + 1) e) (sym same.0) (sym same.1) over in
    let found : span_above spans (get_or spans i d) ≡ Some (get_or spans (i + 1) e) =
    above_part spans i d rules' (omega arith) ∙ ap (find p) (drop_more spans (i + 1) e there)
    ∙ ap (λ b. cond b (Some (get_or spans (i + 1) e)) (find p (drop (i + 1 + 1) spans))) passes in
    sym (ap (λ o. option_map_or (λ (s : Span). s.bottom) o 65535) found)

pub open_above : (spans : List Span) (i : ℕ) (d e : Span) → AreSpans spans → i + 1 < length spans
    → (IsSameColumn (get_or spans i e) (get_or spans (i + 1) e) → ⊥) → 65535 ≡ ceiling_of spans (get_or spans i d)
open_above spans i d e rules' there apart =
    let p : Span → Bool = stands_above (get_or spans i d) in
    let pe = rules'.each i e (omega arith) in
    let pd = rules'.each (i + 1) e there in
    let rises = column_rises _ _ pe pd (rules'.order i (i + 1) e (omega arith) there) in
    let differs : column_of (get_or spans i e) ≡ column_of (get_or spans (i + 1) e) → ⊥ =
    λ column. apart (omega (arith, column, pe.x, pd.x), omega (arith, column, pe.x, pd.x)) in
    let later : column_of (get_or spans i e) < column_of (get_or spans (i + 1) e) = omega (arith, rises, differs) in
    let none : span_above spans (get_or spans i d) ≡ None =
    above_part spans i d rules' (omega arith) ∙ find_none p (drop (i + 1) spans) (none_from p spans (i + 1) (λ k f above there'.
    let at = ap column_of (get_or_default spans i d e (omega arith)) in
    let at' = ap column_of (get_or_default spans k f e there') in
    let rises' = columns_rise spans (i + 1) k e rules' above there' in
    not_above (get_or spans i d) (get_or spans k f) (λ column over. absurd (omega (arith, at, at', rises', later, column))))) in
    sym (ap (λ o. option_map_or (λ (s : Span). s.bottom) o 65535) none)

-- two tests that agree at each element keep the same
filter_same : {A : Type 0} (p q : A → Bool) (xs : List A) → All (λ x. p x ≡ q x) xs → filter p xs ≡ filter q xs
filter_same p q [] each = refl
filter_same p q (x ∷ xs) each =
    ap (λ b. cond b (x ∷ filter p xs) (filter p xs)) (All-head (λ y. p y ≡ q y) x xs each)
    ∙ ap (λ ys. cond (q x) (x ∷ ys) ys) (filter_same p q xs (All-tail (λ y. p y ≡ q y) x xs each))

-- a test that holds exactly where another does gives the same
same_test : (a b : Bool) → (a ≡ true → b ≡ true) → (b ≡ true → a ≡ true) → a ≡ b
same_test true b there back = sym (there refl)
same_test false true there back = back refl
same_test false false there back = refl

-- the neighbouring column in a direction is the one with the number of that direction
toward_number : (dir : ℕ) (from to : Span) → dir < 4 → IsSpan 1024 1024 from → IsSpan 1024 1024 to
    → is_toward dir (foot_of from) (foot_of to) ≡ is_in (column_beside dir from) to
toward_number zero from to small f t = same_test _ _
    (λ h. let e = both_equal (to.x + 1) from.x to.z from.z h in eq-eqb _ _ (omega (arith, e.0, e.1)))
    (λ h. let e = eqb-true _ _ h in tests_of_equal (to.x + 1) from.x to.z from.z (omega (arith, e, f.x, t.x)) (omega (arith, e, f.x, t.x)))
toward_number (suc zero) from to small f t = same_test _ _
    (λ h. let e = both_equal to.x from.x to.z (from.z + 1) h in eq-eqb _ _ (omega (arith, e.0, e.1)))
    (λ h. let e = eqb-true _ _ h in tests_of_equal to.x from.x to.z (from.z + 1) (omega (arith, e, f.x, t.x)) (omega (arith, e, f.x, t.x)))
toward_number (suc (suc zero)) from to small f t = same_test _ _
    (λ h. let e = both_equal to.x (from.x + 1) to.z from.z h in eq-eqb _ _ (omega (arith, e.0, e.1)))
    (λ h. let e = eqb-true _ _ h in tests_of_equal to.x (from.x + 1) to.z from.z (omega (arith, e, f.x, t.x)) (omega (arith, e, f.x, t.x)))
toward_number (suc (suc (suc zero))) from to small f t = same_test _ _
    (λ h. let e = both_equal to.x from.x (to.z + 1) from.z h in eq-eqb _ _ (omega (arith, e.0, e.1)))
    (λ h. let e = eqb-true _ _ h in tests_of_equal to.x from.x (to.z + 1) from.z (omega (arith, e, f.x, t.x)) (omega (arith, e, f.x, t.x)))
toward_number (suc (suc (suc (suc n)))) from to small f t = absurd (omega arith)

-- the spans of the neighbouring column in a direction
pub spans_toward : (dir : ℕ) (spans : List Span) (span : Span) → dir < 4 → AreSpans spans → IsSpan 1024 1024 span
    → filter (is_in (column_beside dir span)) spans ≡ column_toward dir spans span
spans_toward dir spans span small rules' is =
    sym (filter_same (λ (other : Span). is_toward dir (foot_of span) (foot_of other)) (is_in (column_beside dir span)) spans
    (All-weaker (IsSpan 1024 1024) (λ (other : Span). is_toward dir (foot_of span) (foot_of other) ≡ is_in (column_beside dir span) other)
    (λ other is'. toward_number dir span other small is is') spans rules'.each))

-- a height over one column, and a greater one over the same or any over a later one
place_rises : (column column' top top' height : ℕ) → height ≤ 255 → top ≤ 8191 → column ≤ column' → (column ≡ column' → top ≤ top')
    → place_of column (top + height) ≤ place_of column' (top' + height)
place_rises column column' top top' height low small rises over = elim (cases_lt column column') [
  | inl less ↦ omega (arith, less, low, small)
  | inr more ↦ let same : column ≡ column' = omega arith in let above = over same in omega (arith, same, above)
]

-- what a span sees of the column beside it begins no earlier for a later span
pub beside_rises : (dir height : ℕ) (a b : Span) → dir < 4 → height ≤ 255 → IsSpan 1024 1024 a → IsSpan 1024 1024 b → IsSpanBefore a b
    → place_of (column_beside dir a) (a.top + height) ≤ place_of (column_beside dir b) (b.top + height)
beside_rises dir height a b small low pa pb before =
    by_direction dir small (place_rises (column_of a) (column_of b) a.top b.top height low pa.top (column_rises a b pa pb before)
    (λ same. let under = stacked a b pa pb before same in omega (arith, under, pb.solid)))
  where
    by_direction : (dir : ℕ) → dir < 4 → place_of (column_of a) (a.top + height) ≤ place_of (column_of b) (b.top + height)
        → place_of (column_beside dir a) (a.top + height) ≤ place_of (column_beside dir b) (b.top + height)
    by_direction zero small later = omega (arith, later)
    by_direction (suc zero) small later = omega (arith, later)
    by_direction (suc (suc zero)) small later = omega (arith, later)
    by_direction (suc (suc (suc zero))) small later = omega (arith, later)
    by_direction (suc (suc (suc (suc n)))) small later = absurd (omega arith)
