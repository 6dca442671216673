-- Elements of lists.
use Rattle.std.proofs.Common.{◌≡◌, ℕ, zero, suc, ◌<◌, ◌⊎◌, Bool, true, false, cond, List, [], ◌∷◌, length, filter, refl, sym, ap, subst, ◌∙◌, inl, inr, arith}
use Rattle.std.specs.Prelude.{Contains, slice_index_or}
use Rattle.std.proofs.lemmas.Bool.{both_ways}
use Rattle.std.proofs.lemmas.List.Elements.{All-contains, All-contains_itself, All-filter, filter_passes}

-- an element of a list is its first or one of the others
pub contains_cases : {X : Type 0} (x y : X) (xs : List X) → Contains (x ∷ xs) y → (x ≡ y) ⊎ Contains xs y
contains_cases {X = X} x y xs held = by_place held.0 held.1 held.2
  where
    by_place : (k : ℕ) → k < length (x ∷ xs) → slice_index_or (x ∷ xs) k y ≡ y → (x ≡ y) ⊎ Contains xs y
    by_place zero there is = inl is
    by_place (suc k) there is = inr (k, omega (arith, there), is)

-- the first element is one of a list, and so are the others; an empty list has none
pub contains_first : {X : Type 0} (x : X) (xs : List X) → Contains (x ∷ xs) x
contains_first x xs = (0, omega arith, refl)

pub contains_later : {X : Type 0} (x y : X) (xs : List X) → Contains xs y → Contains (x ∷ xs) y
contains_later x y xs held = (suc held.0, omega (arith, held.1), held.2)

pub contains_none : {X : Type 0} (x : X) → Contains [] x → ⊥
contains_none x held = omega (arith, held.1)

-- what a filter kept is an element, and passes
pub kept_element : {X : Type 0} (p : X → Bool) (xs : List X) (x : X) → Contains (filter p xs) x → Contains xs x
kept_element p xs x held = All-contains (Contains xs) (filter p xs) x (All-filter p (Contains xs) xs (All-contains_itself xs)) held

pub kept_passes : {X : Type 0} (p : X → Bool) (xs : List X) (x : X) → Contains (filter p xs) x → p x ≡ true
kept_passes p xs x held = All-contains (λ y. p y ≡ true) (filter p xs) x (filter_passes p xs) held

-- an element that passes is kept
pub kept_if_passes : {X : Type 0} (p : X → Bool) (xs : List X) (x : X) → p x ≡ true → Contains xs x → Contains (filter p xs) x
kept_if_passes p [] x passes held = absurd (contains_none x held)
kept_if_passes {X = X} p (y ∷ ys) x passes held = by_test (p y) refl (contains_cases y x ys held) (kept_if_passes p ys x passes)
  where
    by_test : (b : Bool) → p y ≡ b → ((y ≡ x) ⊎ Contains ys x) → (Contains ys x → Contains (filter p ys) x) → Contains (cond b (y ∷ filter p ys) (filter p ys)) x
    by_test true is (inl same) rest = subst (λ (z : X). Contains (z ∷ filter p ys) x) (sym same) (contains_first x (filter p ys))
    by_test true is (inr later) rest = contains_later y x (filter p ys) (rest later)
    by_test false is (inl same) rest = absurd (both_ways (p y) is (ap p same ∙ passes))
    by_test false is (inr later) rest = rest later
