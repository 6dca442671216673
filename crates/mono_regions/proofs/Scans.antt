-- Scans over lists: tests that agree, and which one number was seen.
use Rattle.std.proofs.Common.{◌≡◌, ℕ, ◌<◌, Bool, true, false, length, List, [], ◌∷◌, get_or, ap, ◌∙◌, sym, refl, subst, inl, inr, Option, Some, None, arith}
use Rattle.std.specs.Prelude.{◌==◌, ◌&&◌, ◌||◌, not, All, if◌then◌else◌}
use Rattle.std.specs.List.{fold, list_any, list_all, range_with_len}
use Rattle.std.specs.Option.{option_map_or}
use Rattle.std.proofs.lemmas.Bool.{cases_Bool, eqb-true, eq-eqb, both_ways, or_cases, not_from_true, not_from_false, or_left, or_right}
use Rattle.std.proofs.lemmas.List.{get_or_default}
use Rattle.std.proofs.lemmas.List.Elements.{All-head, All-tail}
use Rattle.std.proofs.lemmas.List.Folds.{Any-from_list_any, list_any_at}
use Rattle.std.proofs.lemmas.List.FromFn.{get_or-range_with_len, length-range_with_len}
use Rattle.std.proofs.lemmas.List.Sums.{AllPass-from_list_all, list_all-from_AllPass}
use Rattle.cell_table.proofs.Places.{same_test}
use Rattle.mono_regions.specs.declared.touching.SeenStrips.TheVariants.{Nothing, One, Several}
use Rattle.mono_regions.specs.Seeing.{seen_with, is_one}
use Rattle.mono_regions.specs.Joining.{names}

pub any_where : {A : Type 0} (p : A → Bool) (xs : List A) (d : A) → list_any p xs ≡ true → (k : ℕ) × (k < length xs) × (p (get_or xs k d) ≡ true)
any_where {A} p xs d h =
    let w = Any-from_list_any p xs h in
    let P : A → Type 0 = λ y. p y ≡ true in
    (w.0, w.2, subst P (sym (get_or_default xs w.0 d w.1 w.2 ∙ w.3)) w.4)

pub any_same : {A : Type 0} (p q : A → Bool) (xs : List A) → All (λ x. p x ≡ q x) xs → list_any p xs ≡ list_any q xs
any_same p q [] each = refl
any_same p q (x ∷ xs) each =
    let here = All-head (λ y. p y ≡ q y) x xs each in
    let rest = any_same p q xs (All-tail (λ y. p y ≡ q y) x xs each) in
    cc

pub all_same : {A : Type 0} (p q : A → Bool) (xs : List A) → All (λ x. p x ≡ q x) xs → list_all p xs ≡ list_all q xs
all_same p q [] each = refl
all_same p q (x ∷ xs) each =
    let here = All-head (λ y. p y ≡ q y) x xs each in
    let rest = all_same p q xs (All-tail (λ y. p y ≡ q y) x xs each) in
    cc

-- a number is that of an answer, if there is one
abbrev pub agrees : ℕ → Option ℕ → Bool
agrees t answer = option_map_or (λ u. u == t) answer true

-- a number is among answers, and no other is
abbrev pub is_alone : ℕ → List (Option ℕ) → Bool
is_alone t answers = list_any (names t) answers && list_all (agrees t) answers

-- once several were seen, none was seen alone
several_stay : (t : ℕ) (xs : List (Option ℕ)) → is_one t (fold seen_with Several xs) ≡ false
several_stay t [] = refl
several_stay t (None ∷ xs) = several_stay t xs
several_stay t (Some u ∷ xs) = several_stay t xs

one_stays : (t u : ℕ) (xs : List (Option ℕ)) → is_one t (fold seen_with (One u) xs) ≡ (u == t && list_all (agrees t) xs)
one_stays t u [] = with_true (u == t)
  where
    with_true : (b : Bool) → b ≡ (b && true)
    with_true true = refl
    with_true false = refl
one_stays t u (None ∷ xs) = one_stays t u xs
one_stays t u (Some v ∷ xs) = elim (cases_Bool (u == v)) [
  | inl same ↦
      ap (λ b. is_one t (fold seen_with (if b then One u else Several) xs)) same
      ∙ one_stays t u xs ∙ twice (u == t) (list_all (agrees t) xs) ∙ ap (λ n. u == t && (n == t && list_all (agrees t) xs)) (eqb-true u v same)
  | inr apart ↦
      ap (λ b. is_one t (fold seen_with (if b then One u else Several) xs)) apart
      ∙ several_stay t xs
      ∙ sym (neither (u == t) (v == t) (list_all (agrees t) xs) (λ a b. both_ways _ apart (eq-eqb u v (eqb-true u t a ∙ sym (eqb-true v t b)))))
]
  where
    twice : (a b : Bool) → (a && b) ≡ (a && (a && b))
    twice true b = refl
    twice false b = refl

    neither : (a b c : Bool) → (a ≡ true → b ≡ true → ⊥) → (a && (b && c)) ≡ false
    neither true true c apart = absurd (apart refl refl)
    neither true false c apart = refl
    neither false b c apart = refl

-- one number was seen exactly where it is alone among the answers
pub seen_alone : (t : ℕ) (xs : List (Option ℕ)) → is_one t (fold seen_with Nothing xs) ≡ is_alone t xs
seen_alone t [] = refl
seen_alone t (None ∷ xs) = seen_alone t xs
seen_alone t (Some u ∷ xs) = one_stays t u xs ∙ first (u == t) (list_any (names t) xs) (list_all (agrees t) xs)
  where
    first : (a b c : Bool) → (a && c) ≡ ((a || b) && (a && c))
    first true b c = refl
    first false true c = refl
    first false false c = refl

-- no number but one is among answers exactly where each answer agrees
pub no_other : (n t : ℕ) (xs : List (Option ℕ)) → ((k u : ℕ) → k < length xs → get_or xs k None ≡ Some u → u < n)
    → list_all (λ u. u == t || not (list_any (names u) xs)) (range_with_len 0 n) ≡ list_all (agrees t) xs
no_other n t xs below = same_test _ _ forth back
  where
    p : ℕ → Bool
    p u = u == t || not (list_any (names u) xs)

    at_number : (u : ℕ) → u < n → get_or (range_with_len 0 n) u 0 ≡ u
    at_number u there = get_or-range_with_len 0 n u 0 there ∙ omega arith

    forth : list_all p (range_with_len 0 n) ≡ true → list_all (agrees t) xs ≡ true
    forth all = list_all-from_AllPass (agrees t) xs (λ k d there. at k d there (get_or xs k d) refl)
      where
        at : (k : ℕ) (d : Option ℕ) → k < length xs → (o : Option ℕ) → get_or xs k d ≡ o → agrees t (get_or xs k d) ≡ true
        at k d there None is = ap (agrees t) is
        at k d there (Some u) is =
            let small : u < n = below k u there (get_or_default xs k None d there ∙ is) in
            let Q : ℕ → Type 0 = λ m. p m ≡ true in
            let passes : p u ≡ true = subst Q (at_number u small) (AllPass-from_list_all p (range_with_len 0 n) all u 0 (omega (arith, small, length-range_with_len 0 n))) in
            let among : list_any (names u) xs ≡ true = list_any_at (names u) xs k d there (ap (names u) is ∙ eq-eqb u u refl) in
            ap (agrees t) is ∙ elim (or_cases (u == t) (not (list_any (names u) xs)) passes) [
              | inl same ↦ same
              | inr none ↦ absurd (both_ways _ (not_from_true _ among) none)
            ]

    back : list_all (agrees t) xs ≡ true → list_all p (range_with_len 0 n) ≡ true
    back all = list_all-from_AllPass p (range_with_len 0 n) (λ k d there. at (get_or (range_with_len 0 n) k d))
      where
        at : (u : ℕ) → p u ≡ true
        at u = elim (cases_Bool (list_any (names u) xs)) [
          | inl among ↦
              let w = any_where (names u) xs None among in
              or_left (u == t) _ (one (get_or xs w.0 None) w.2 (AllPass-from_list_all (agrees t) xs all w.0 None w.1))
          | inr none ↦ or_right (u == t) _ (not_from_false _ none)
        ]
          where
            one : (o : Option ℕ) → names u o ≡ true → agrees t o ≡ true → (u == t) ≡ true
            one None named agreed = absurd (both_ways false refl named)
            one (Some v) named agreed = eq-eqb u t (sym (eqb-true v u named) ∙ eqb-true v t agreed)
