-- Elements of lists to which something was added or in which something was replaced.
use Rattle.std.proofs.Common.{◌≡◌, ℕ, ◌+◌, ◌<◌, ◌≤◌, List, [], ◌∷◌, ◌++◌, length, set, get_or, sym, subst, ap, ◌∙◌, inl, inr, arith, length-set, length-append}
use Rattle.std.specs.Prelude.{slice_get, Some}
use Rattle.std.proofs.lemmas.Bool.{cases_lt}
use Rattle.std.proofs.lemmas.List.{get_or-set_other, get_or_append_left, get_or-append-add}
use Rattle.std.proofs.lemmas.Option.{slice_get_within, slice_get-get_or, slice_get_past, same_Some}

pub slice_get-set_other : {X : Type 0} (xs : List X) (i j : ℕ) (y : X) → (j ≡ i → ⊥) → slice_get (set xs i y) j ≡ slice_get xs j
slice_get-set_other xs i j y other = elim (cases_lt j (length xs)) [
  | inl within ↦
      slice_get-get_or (set xs i y) j y (omega (arith, within, length-set xs i y)) ∙ ap Some (get_or-set_other xs i j y y other)
      ∙ sym (slice_get-get_or xs j y within)
  | inr past ↦ slice_get_past (set xs i y) j (omega (arith, past, length-set xs i y)) ∙ sym (slice_get_past xs j past)
]

pub slice_get_front : {X : Type 0} (xs : List X) (x : X) (k : ℕ) → k < length xs → slice_get (xs ++ x ∷ []) k ≡ slice_get xs k
slice_get_front xs x k within =
    slice_get-get_or (xs ++ x ∷ []) k x (omega (arith, within, length-append xs (x ∷ []))) ∙ ap Some (get_or_append_left xs (x ∷ []) x k within)
    ∙ sym (slice_get-get_or xs k x within)

pub slice_get_last : {X : Type 0} (xs : List X) (x : X) → slice_get (xs ++ x ∷ []) (length xs) ≡ Some x
slice_get_last xs x =
    slice_get-get_or (xs ++ x ∷ []) (length xs) x (omega (arith, length-append xs (x ∷ [])))
    ∙ ap Some (subst (λ (n : ℕ). get_or (xs ++ x ∷ []) n x ≡ x) (zero_more (length xs)) (get_or-append-add xs (x ∷ []) 0 x))
  where
    zero_more : (n : ℕ) → n + 0 ≡ n
    zero_more n = omega arith

pub last_place : {X : Type 0} (xs : List X) (x y : X) (k : ℕ) → length xs ≤ k → slice_get (xs ++ x ∷ []) k ≡ Some y → k ≡ length xs
last_place xs x y k past is = omega (arith, past, slice_get_within (xs ++ x ∷ []) k y is, length-append xs (x ∷ []))

pub last_is : {X : Type 0} (xs : List X) (x y : X) (k : ℕ) → length xs ≤ k → slice_get (xs ++ x ∷ []) k ≡ Some y → y ≡ x
last_is xs x y k past is =
    same_Some y x (sym (subst (λ (n : ℕ). slice_get (xs ++ x ∷ []) n ≡ Some y) (last_place xs x y k past is) is) ∙ slice_get_last xs x)
