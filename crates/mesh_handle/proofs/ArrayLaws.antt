-- Arrays that are written one place after the other.
use Rattle.std.proofs.Common.{◌≡◌, ◌≢◌, ℕ, ◌+◌, ◌<◌, ◌≤◌, List, length, slice_index_or, slice_set, Option, None, inl, inr, refl, sym, subst, arith}
use Rattle.std.specs.Prelude.{IsNone}
use Rattle.std.proofs.lemmas.List.{get_or-set_same, get_or-set_other}
use native.Mathlib.Nat.{eq-or-lt_of_le}

module _ {Y : Type 0} (ys : List Y) (n : ℕ) (y d : Y) where
  pub set_each : (P : ℕ → Y → Type 0) → n < length ys → ((i : ℕ) → i < n → P i (slice_index_or ys i d)) → P n y
      → (i : ℕ) → i < n + 1 → P i (slice_index_or (slice_set ys n y) i d)
  set_each P inside each one i before =
      elim (eq-or-lt_of_le (here i before)) [
        | inl e ↦ subst (λ (k : ℕ). P k (slice_index_or (slice_set ys n y) k d)) (sym e) (subst (P n) (sym (get_or-set_same ys n y d inside)) one)
        | inr less ↦ subst (P i) (sym (get_or-set_other ys n i y d (apart i less))) (each i less)
      ]
    where
      here : (i : ℕ) → i < n + 1 → i ≤ n
      here i h = omega arith

      apart : (i : ℕ) → i < n → i ≢ n
      apart i h = omega (arith, h)

  pub set_rest : (xs : List Y) → ((i : ℕ) → n ≤ i → slice_index_or ys i d ≡ slice_index_or xs i d) → (i : ℕ) → n + 1 ≤ i → slice_index_or (slice_set ys n y) i d ≡ slice_index_or xs i d
  set_rest xs rest i behind = subst (λ (z : Y). z ≡ slice_index_or xs i d) (sym (get_or-set_other ys n i y d (apart i behind))) (rest i (past i behind))
    where
      apart : (i : ℕ) → n + 1 ≤ i → i ≢ n
      apart i h = omega (arith, h)

      past : (i : ℕ) → n + 1 ≤ i → n ≤ i
      past i h = omega (arith, h)

pub none_is : {X : Type 0} (r : Option X) → r ≡ None → IsNone r
none_is r e = subst (λ o. IsNone o) (sym e) refl
