-- Lists whose elements stand in an order, put together.
use Rattle.std.proofs.Common.{ℕ, zero, suc, Bool, true, false, cond, List, [], ◌∷◌, ◌++◌, take, drop, filter, sym, subst, arith}
use Rattle.std.specs.Prelude.{All, AllPairs, not}
use Rattle.std.proofs.lemmas.List.{take-append-drop}
use Rattle.std.proofs.lemmas.List.Elements.{All-nil, All-cons, All-head, All-tail, All-append}
use Rattle.std.proofs.lemmas.List.Kept.{AllPairs-cons}

module _ {X : Type 0} where
  pub all_left : (P : X → Type 0) (xs ys : List X) → All P (xs ++ ys) → All P xs
  all_left P [] ys each = All-nil P
  all_left P (x ∷ xs) ys each = All-cons P x xs (All-head P x (xs ++ ys) each) (all_left P xs ys (All-tail P x (xs ++ ys) each))

  pub all_right : (P : X → Type 0) (xs ys : List X) → All P (xs ++ ys) → All P ys
  all_right P [] ys each = each
  all_right P (x ∷ xs) ys each = all_right P xs ys (All-tail P x (xs ++ ys) each)

  -- all that one of two tests keeps, and all that is left
  pub all_from_parts : (P : X → Type 0) (p : X → Bool) (xs : List X) → All P (filter p xs) → All P (filter (λ x. not (p x)) xs) → All P xs
  all_from_parts P p [] kept left = All-nil P
  all_from_parts P p (x ∷ xs) kept left =
      (elim (p x) as (λ b. All P (cond b (x ∷ filter p xs) (filter p xs))
      → All P (cond (not b) (x ∷ filter (λ y. not (p y)) xs) (filter (λ y. not (p y)) xs)) → All P (x ∷ xs)) [
        | true ↦ λ kept' left'. All-cons P x xs (All-head P x (filter p xs) kept') (all_from_parts P p xs (All-tail P x (filter p xs) kept') left')
        | false ↦ λ kept' left'. All-cons P x xs (All-head P x (filter (λ y. not (p y)) xs) left')
            (all_from_parts P p xs kept' (All-tail P x (filter (λ y. not (p y)) xs) left'))
      ]) kept left

  pub pairs_head : (R : X → X → Type 0) (x : X) (xs : List X) → AllPairs R (x ∷ xs) → All (R x) xs
  pairs_head R x xs order = λ k d there. order zero (suc k) d (omega arith) (omega (arith, there))

  pub pairs_tail : (R : X → X → Type 0) (x : X) (xs : List X) → AllPairs R (x ∷ xs) → AllPairs R xs
  pairs_tail R x xs order = λ i j d less there. order (suc i) (suc j) d (omega (arith, less)) (omega (arith, there))

  pub pairs_left : (R : X → X → Type 0) (xs ys : List X) → AllPairs R (xs ++ ys) → AllPairs R xs
  pairs_left R [] ys order = λ i j d less there. absurd (omega (arith, there))
  pairs_left R (x ∷ xs) ys order =
      AllPairs-cons R x xs (all_left (R x) xs ys (pairs_head R x (xs ++ ys) order)) (pairs_left R xs ys (pairs_tail R x (xs ++ ys) order))

  pub pairs_right : (R : X → X → Type 0) (xs ys : List X) → AllPairs R (xs ++ ys) → AllPairs R ys
  pairs_right R [] ys order = order
  pairs_right R (x ∷ xs) ys order = pairs_right R xs ys (pairs_tail R x (xs ++ ys) order)

  -- each of the first comes before each of the second
  pub pairs_across : (R : X → X → Type 0) (xs ys : List X) → AllPairs R (xs ++ ys) → All (λ x. All (R x) ys) xs
  pairs_across R [] ys order = All-nil (λ x. All (R x) ys)
  pairs_across R (x ∷ xs) ys order =
      All-cons (λ x. All (R x) ys) x xs (all_right (R x) xs ys (pairs_head R x (xs ++ ys) order)) (pairs_across R xs ys (pairs_tail R x (xs ++ ys) order))

  pub pairs_append : (R : X → X → Type 0) (xs ys : List X) → AllPairs R xs → AllPairs R ys → All (λ x. All (R x) ys) xs → AllPairs R (xs ++ ys)
  pairs_append R [] ys order_x order_y across = order_y
  pairs_append R (x ∷ xs) ys order_x order_y across =
      AllPairs-cons R x (xs ++ ys) (All-append (R x) xs ys (pairs_head R x xs order_x) (All-head (λ x. All (R x) ys) x xs across))
      (pairs_append R xs ys (pairs_tail R x xs order_x) order_y (All-tail (λ x. All (R x) ys) x xs across))

  -- a list between two others
  pub pairs_between : (R : X → X → Type 0) (xs ys zs : List X) → AllPairs R (xs ++ ys) → AllPairs R (xs ++ zs) → All (λ y. All (R y) zs) ys
      → AllPairs R ((xs ++ ys) ++ zs)
  pairs_between R [] ys zs order_y order_z across = pairs_append R ys zs order_y order_z across
  pairs_between R (x ∷ xs) ys zs order_y order_z across =
      AllPairs-cons R x ((xs ++ ys) ++ zs)
      (All-append (R x) (xs ++ ys) zs (pairs_head R x (xs ++ ys) order_y) (all_right (R x) xs zs (pairs_head R x (xs ++ zs) order_z)))
      (pairs_between R xs ys zs (pairs_tail R x (xs ++ ys) order_y) (pairs_tail R x (xs ++ zs) order_z) across)

  pub pairs_take : (R : X → X → Type 0) (n : ℕ) (xs : List X) → AllPairs R xs → AllPairs R (take n xs)
  pairs_take R n xs order =
      let P : List X → Type 0 = λ list. AllPairs R list in
      pairs_left R (take n xs) (drop n xs) (subst P (sym (take-append-drop n xs)) order)

  pub pairs_drop : (R : X → X → Type 0) (n : ℕ) (xs : List X) → AllPairs R xs → AllPairs R (drop n xs)
  pairs_drop R n xs order =
      let P : List X → Type 0 = λ list. AllPairs R list in
      pairs_right R (take n xs) (drop n xs) (subst P (sym (take-append-drop n xs)) order)
