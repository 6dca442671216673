-- What a test or a search finds in the elements of a list that another test keeps.
use Rattle.std.proofs.Common.{◌≡◌, Bool, true, false, cond, List, [], ◌∷◌, map, filter, refl, sym, ap, ◌∙◌, inl, inr, Some, length}
use Rattle.std.specs.Prelude.{◌&&◌, ◌||◌, All}
use Rattle.std.specs.List.{find, list_any, count_by}
use Rattle.std.proofs.lemmas.Bool.{cases_Bool, cond-true, cond-false, false_from_ne_true, both_ways}
use Rattle.std.proofs.lemmas.List.Elements.{All-head, All-tail}
use Rattle.std.proofs.lemmas.List.Sums.{length-filter}

-- two tests that agree on each element of a list
pub any_agree : {A : Type 0} (p q : A → Bool) (xs : List A) → All (λ x. p x ≡ q x) xs → list_any p xs ≡ list_any q xs
any_agree p q [] same = refl
any_agree p q (x ∷ xs) same =
    ap (λ b. b || list_any p xs) (All-head (λ y. p y ≡ q y) x xs same)
    ∙ ap (λ b. q x || b) (any_agree p q xs (All-tail (λ y. p y ≡ q y) x xs same))

pub map_agree : {A B : Type 0} (f g : A → B) (xs : List A) → All (λ x. f x ≡ g x) xs → map f xs ≡ map g xs
map_agree f g [] same = refl
map_agree f g (x ∷ xs) same =
    ap (λ y. y ∷ map f xs) (All-head (λ y. f y ≡ g y) x xs same)
    ∙ ap (λ ys. g x ∷ ys) (map_agree f g xs (All-tail (λ y. f y ≡ g y) x xs same))

-- images of kept elements, where the tests agree and so do the images of what they keep
pub map_kept_agree : {A B : Type 0} (f g : A → B) (p q : A → Bool) (xs : List A)
    → All (λ x. (p x ≡ q x) × (q x ≡ true → f x ≡ g x)) xs → map f (filter p xs) ≡ map g (filter q xs)
map_kept_agree f g p q [] same = refl
map_kept_agree f g p q (x ∷ xs) same =
    let here = All-head (λ y. (p y ≡ q y) × (q y ≡ true → f y ≡ g y)) x xs same in
    let rest = map_kept_agree f g p q xs (All-tail (λ y. (p y ≡ q y) × (q y ≡ true → f y ≡ g y)) x xs same) in
    elim (cases_Bool (q x)) [
      | inl is ↦
          ap (map f) (cond-true (p x) (x ∷ filter p xs) (filter p xs) (here.0 ∙ is))
          ∙ ap (λ y. y ∷ map f (filter p xs)) (here.1 is) ∙ ap (λ ys. g x ∷ ys) rest
          ∙ sym (ap (map g) (cond-true (q x) (x ∷ filter q xs) (filter q xs) is))
      | inr not ↦
          ap (map f) (cond-false (p x) (x ∷ filter p xs) (filter p xs) (here.0 ∙ not))
          ∙ rest
          ∙ sym (ap (map g) (cond-false (q x) (x ∷ filter q xs) (filter q xs) not))
    ]

-- what passes a test is kept by another, so that nothing that passes is lost
module _ {A : Type 0} (p q : A → Bool) (kept : (x : A) → q x ≡ true → p x ≡ true) where
  lost_fails : (x : A) → p x ≡ false → q x ≡ false
  lost_fails x lost = false_from_ne_true (q x) (λ h. both_ways (p x) lost (kept x h))

  pub find-restricted : (xs : List A) → find q (filter p xs) ≡ find q xs
  find-restricted [] = refl
  find-restricted (x ∷ xs) =
      let rest = find-restricted xs in
      elim (cases_Bool (p x)) [
        | inl is ↦ ap (find q) (cond-true (p x) (x ∷ filter p xs) (filter p xs) is) ∙ ap (λ o. cond (q x) (Some x) o) rest
        | inr not ↦
            ap (find q) (cond-false (p x) (x ∷ filter p xs) (filter p xs) not) ∙ rest
            ∙ sym (cond-false (q x) (Some x) (find q xs) (lost_fails x not))
      ]

  pub filter-restricted : (xs : List A) → filter q (filter p xs) ≡ filter q xs
  filter-restricted [] = refl
  filter-restricted (x ∷ xs) =
      let rest = filter-restricted xs in
      elim (cases_Bool (p x)) [
        | inl is ↦ ap (filter q) (cond-true (p x) (x ∷ filter p xs) (filter p xs) is) ∙ ap (λ ys. cond (q x) (x ∷ ys) ys) rest
        | inr not ↦
            ap (filter q) (cond-false (p x) (x ∷ filter p xs) (filter p xs) not) ∙ rest
            ∙ sym (cond-false (q x) (x ∷ filter q xs) (filter q xs) (lost_fails x not))
      ]

-- as many pass
pub count-restricted : {A : Type 0} (p q : A → Bool) → ((x : A) → q x ≡ true → p x ≡ true) → (xs : List A) → count_by q (filter p xs) ≡ count_by q xs
count-restricted p q kept xs = sym (length-filter q (filter p xs)) ∙ ap length (filter-restricted p q kept xs) ∙ length-filter q xs

-- a test of kept elements
pub any-restricted : {A : Type 0} (p q : A → Bool) (xs : List A) → list_any q (filter p xs) ≡ list_any (λ x. p x && q x) xs
any-restricted p q [] = refl
any-restricted p q (x ∷ xs) =
    let rest = any-restricted p q xs in
    elim (p x) as (λ b. list_any q (cond b (x ∷ filter p xs) (filter p xs)) ≡ ((b && q x) || list_any (λ y. p y && q y) xs))
    [ true ↦ ap (λ b. q x || b) rest | false ↦ rest ]
