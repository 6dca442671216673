-- Elements of lists, and sums over them.
use Rattle.std.proofs.Common.{◌≡◌, ℕ, zero, suc, ◌+◌, ◌<◌, ◌≤◌, ◌⊎◌, List, [], ◌∷◌, length, refl, sym, subst, inl, inr, arith}
use Rattle.std.specs.Prelude.{Contains, slice_index_or, ◌==◌, if◌then◌else◌}
use Rattle.std.specs.List.{sum_by}
use Rattle.std.proofs.lemmas.Bool.{cond-true, cond-false, eq-eqb, ne_eqb}
use Rattle.std.proofs.lemmas.List.Sums.{sum_by-cons}

-- an element of a list is its first or one of the others
pub contains_cases : {X : Type 0} (x y : X) (xs : List X) → Contains (x ∷ xs) y → (x ≡ y) ⊎ Contains xs y
contains_cases {X = X} x y xs held = by_place held.0 held.1 held.2
  where
    by_place : (k : ℕ) → k < length (x ∷ xs) → slice_index_or (x ∷ xs) k y ≡ y → (x ≡ y) ⊎ Contains xs y
    by_place zero there is = inl is
    by_place (suc k) there is = inr (k, omega (arith, there), is)

-- the first element is one of a list, and so are the others
pub contains_first : {X : Type 0} (x : X) (xs : List X) → Contains (x ∷ xs) x
contains_first x xs = (0, omega arith, refl)

pub contains_later : {X : Type 0} (x y : X) (xs : List X) → Contains xs y → Contains (x ∷ xs) y
contains_later x y xs held = (suc held.0, omega (arith, held.1), held.2)

pub contains_none : {X : Type 0} (x : X) → Contains [] x → ⊥
contains_none x held = omega (arith, held.1)

-- where no element counts more, neither does their sum
pub sum_no_more : {X : Type 0} (f g : X → ℕ) (xs : List X) → ((x : X) → g x ≤ f x) → sum_by g xs ≤ sum_by f xs
sum_no_more f g [] no_more = omega arith
sum_no_more f g (x ∷ xs) no_more = omega (arith, sum_by-cons f x xs, sum_by-cons g x xs, no_more x, sum_no_more f g xs no_more)

-- where besides one element counts less by d, the sum is less by d
pub sum_falls : {X : Type 0} (f g : X → ℕ) (d : ℕ) (xs : List X) (x : X) → ((y : X) → g y ≤ f y) → g x + d ≤ f x → Contains xs x
    → sum_by g xs + d ≤ sum_by f xs
sum_falls f g d [] x no_more less held = absurd (contains_none x held)
sum_falls {X = X} f g d (y ∷ ys) x no_more less held =
    elim (contains_cases y x ys held) [
      | inl is ↦
          let here : g y + d ≤ f y = subst (λ (v : X). g v + d ≤ f v) (sym is) less in
          omega (arith, sum_by-cons f y ys, sum_by-cons g y ys, here, sum_no_more f g ys no_more)
      | inr later ↦
          let rest = sum_falls f g d ys x no_more less later in
          omega (arith, sum_by-cons f y ys, sum_by-cons g y ys, no_more y, rest)
    ]

-- what is counted where a number is 0
pub counted : (n k : ℕ) → n ≡ 0 → (if n == 0 then k else 0) ≡ k
counted n k is = cond-true (n == 0) k 0 (eq-eqb n 0 is)

pub not_counted : (n k : ℕ) → 0 < n → (if n == 0 then k else 0) ≡ 0
not_counted n k some = cond-false (n == 0) k 0 (ne_eqb n 0 (λ is. omega (arith, is, some)))
