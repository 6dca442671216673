-- What a search of a list finds.
use Rattle.std.proofs.Common.{◌≡◌, ℕ, zero, suc, ◌<◌, ◌≤◌, Bool, true, false, cond, length, List, [], ◌∷◌, get_or, Some, None, refl, sym, ap, ◌∙◌, arith, inl, inr}
use Rattle.std.specs.Prelude.{All}
use Rattle.std.specs.List.{find, count_by}
use Rattle.std.proofs.lemmas.Bool.{cases_Bool, cond-true, cond-false}
use Rattle.std.proofs.lemmas.List.Elements.{All-head, All-tail}
use Rattle.std.proofs.lemmas.List.Sums.{sum_by-cons}

-- the first element that passes, where an earlier one than a known place may be it
pub record IsFirst {X : Type 0} (p : X → Bool) (xs : List X) (k : ℕ) (d : X) : Type 0 where
  pub place : ℕ
  pub most : place ≤ k
  pub passes : p (get_or xs place d) ≡ true
  pub is : find p xs ≡ Some (get_or xs place d)

pub first_found : {X : Type 0} (p : X → Bool) (xs : List X) (k : ℕ) (d : X) → k < length xs → p (get_or xs k d) ≡ true → IsFirst p xs k d
first_found p [] k d there passes = absurd (omega arith)
first_found p (x ∷ xs) zero d there passes = record { place = 0; most = omega arith; passes = passes; is = cond-true (p x) (Some x) (find p xs) passes }
first_found p (x ∷ xs) (suc k) d there passes =
    elim (cases_Bool (p x)) [
      | inl here ↦ record { place = 0; most = omega arith; passes = here; is = cond-true (p x) (Some x) (find p xs) here }
      | inr not ↦
          let later = first_found p xs k d (omega (arith, there)) passes in
          record {
            place = suc later.place;
            most = omega (arith, later.most);
            passes = later.passes;
            is = cond-false (p x) (Some x) (find p xs) not ∙ later.is;
          }
    ]

-- an element that passes after some that do not
pub find_is : {X : Type 0} (p : X → Bool) (xs : List X) (i : ℕ) (d : X) → i < length xs → ((k : ℕ) → k < i → p (get_or xs k d) ≡ false)
    → p (get_or xs i d) ≡ true → find p xs ≡ Some (get_or xs i d)
find_is p [] i d there before passes = absurd (omega arith)
find_is p (x ∷ xs) zero d there before passes = cond-true (p x) (Some x) (find p xs) passes
find_is p (x ∷ xs) (suc i) d there before passes =
    cond-false (p x) (Some x) (find p xs) (before 0 (omega arith))
    ∙ find_is p xs i d (omega (arith, there)) (λ k below. before (suc k) (omega (arith, below))) passes

pub find_none : {X : Type 0} (p : X → Bool) (xs : List X) → All (λ x. p x ≡ false) xs → find p xs ≡ None
find_none p [] each = refl
find_none p (x ∷ xs) each =
    cond-false (p x) (Some x) (find p xs) (All-head (λ y. p y ≡ false) x xs each)
    ∙ find_none p xs (All-tail (λ y. p y ≡ false) x xs each)

-- what is found is an element that passes
pub record IsFound {X : Type 0} (p : X → Bool) (xs : List X) (x : X) : Type 0 where
  pub place : ℕ
  pub there : place < length xs
  pub at : get_or xs place x ≡ x
  pub passes : p x ≡ true

pub found_in : {X : Type 0} (p : X → Bool) (xs : List X) (x : X) → find p xs ≡ Some x → IsFound p xs x
found_in p [] x is = absurd cc
found_in p (y ∷ ys) x is =
    elim (cases_Bool (p y)) [
      | inl here ↦
          let same : y ≡ x = let e : Some y ≡ Some x = sym (cond-true (p y) (Some y) (find p ys) here) ∙ is in cc in
          record { place = 0; there = omega arith; at = same; passes = ap p (sym same) ∙ here }
      | inr not ↦
          let later = found_in p ys x (sym (cond-false (p y) (Some y) (find p ys) not) ∙ is) in
          record { place = suc later.place; there = omega (arith, later.there); at = later.at; passes = later.passes }
    ]

-- a test that passes wherever another does counts as much, and more where it passes once more
one_at_most : (a b : Bool) → (a ≡ true → b ≡ true) → cond a 1 0 ≤ cond b 1 0
one_at_most true b passes = rw (passes refl) (omega arith)
one_at_most false b passes = omega arith

pub count_by-le : {X : Type 0} (p q : X → Bool) (xs : List X) → All (λ x. p x ≡ true → q x ≡ true) xs → count_by p xs ≤ count_by q xs
count_by-le p q [] each = omega arith
count_by-le p q (x ∷ xs) each =
    let here = one_at_most (p x) (q x) (All-head (λ y. p y ≡ true → q y ≡ true) x xs each) in
    let later = count_by-le p q xs (All-tail (λ y. p y ≡ true → q y ≡ true) x xs each) in
    rw (sum_by-cons (λ y. cond (p y) 1 0) x xs, sum_by-cons (λ y. cond (q y) 1 0) x xs) (omega (arith, here, later))

pub count_by-below : {X : Type 0} (p q : X → Bool) (xs : List X) (k : ℕ) (d : X) → All (λ x. p x ≡ true → q x ≡ true) xs → k < length xs
    → p (get_or xs k d) ≡ false → q (get_or xs k d) ≡ true → count_by p xs < count_by q xs
count_by-below p q [] k d each there not passes = absurd (omega arith)
count_by-below p q (x ∷ xs) zero d each there not passes =
    let later = count_by-le p q xs (All-tail (λ y. p y ≡ true → q y ≡ true) x xs each) in
    let here : cond (p x) 1 0 ≡ zero = cond-false (p x) 1 0 not in
    let more : cond (q x) 1 0 ≡ suc zero = cond-true (q x) 1 0 passes in
    rw (sum_by-cons (λ y. cond (p y) 1 0) x xs, sum_by-cons (λ y. cond (q y) 1 0) x xs) (omega (arith, here, more, later))
count_by-below p q (x ∷ xs) (suc k) d each there not passes =
    let here = one_at_most (p x) (q x) (All-head (λ y. p y ≡ true → q y ≡ true) x xs each) in
    let later = count_by-below p q xs k d (All-tail (λ y. p y ≡ true → q y ≡ true) x xs each) (omega (arith, there)) not passes in
    rw (sum_by-cons (λ y. cond (p y) 1 0) x xs, sum_by-cons (λ y. cond (q y) 1 0) x xs) (omega (arith, here, later))
