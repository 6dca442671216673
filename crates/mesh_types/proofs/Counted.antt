-- How many elements of a list pass a test.
use Rattle.std.proofs.Common.{◌≡◌, ℕ, ◌+◌, ◌<◌, ◌≤◌, Bool, true, cond, List, [], ◌∷◌, length, get_or, arith, zero, suc}
use Rattle.std.specs.List.{sum_by}
use Rattle.std.proofs.lemmas.Bool.{cond-true}
use Rattle.std.proofs.lemmas.List.Sums.{sum_by-cons}

-- how many elements pass
abbrev pub counted : {X : Type 0} → (X → Bool) → List X → ℕ
counted p xs = sum_by (λ x. cond (p x) 1 0) xs

pub counted_more : {X : Type 0} (p : X → Bool) (x : X) (xs : List X) → counted p (x ∷ xs) ≡ cond (p x) 1 0 + counted p xs
counted_more p x xs = sum_by-cons (λ y. cond (p y) 1 0) x xs

-- an element that passes is counted
pub some_counted : {X : Type 0} (p : X → Bool) (xs : List X) (k : ℕ) (d : X) → k < length xs → p (get_or xs k d) ≡ true → 1 ≤ counted p xs
some_counted p [] k d there passes = absurd (omega (arith, there))
some_counted p (x ∷ xs) zero d there passes = omega (arith, counted_more p x xs, cond-true {A = ℕ} (p x) 1 0 passes)
some_counted p (x ∷ xs) (suc k) d there passes =
    omega (arith, counted_more p x xs, some_counted p xs k d (omega (arith, there)) passes)

-- what is counted once passes at one place only
pub once_apart : {X : Type 0} (p : X → Bool) (xs : List X) (i j : ℕ) (d : X) → counted p xs ≤ 1 → i < j → j < length xs
    → p (get_or xs i d) ≡ true → p (get_or xs j d) ≡ true → ⊥
once_apart p [] i j d most less there passes passes' = omega (arith, there)
once_apart p (x ∷ xs) i zero d most less there passes passes' = omega (arith, less)
once_apart p (x ∷ xs) zero (suc j) d most less there passes passes' =
    omega (arith, most, counted_more p x xs, cond-true {A = ℕ} (p x) 1 0 passes, some_counted p xs j d (omega (arith, there)) passes')
once_apart p (x ∷ xs) (suc i) (suc j) d most less there passes passes' =
    once_apart p xs i j d (omega (arith, most, counted_more p x xs)) (omega (arith, less)) (omega (arith, there)) passes passes'
