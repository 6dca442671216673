-- The laws of choices: the first of the best is found in one walk over the items.
use Rattle.std.proofs.Common.{◌≡◌, Bool, true, false, List, [], ◌∷◌, ◌++◌, All, Option, filter, cond, append_assoc, refl, sym, ap, subst, ◌∙◌}
use Rattle.std.specs.Prelude.{None, Some, if◌then◌else◌}
use Rattle.std.specs.List.{fold}
use Rattle.std.specs.Cmp.{IsStrictWeakOrder}
use Rattle.std.proofs.lemmas.List.{append-nil}
use Rattle.std.proofs.lemmas.List.Elements.{All-head, All-tail, All-cons, All-nil}
use Rattle.mesh_types.specs.Choices.{or_earlier, first_best, or_later}

-- a chain of two
beats-chain : {X : Type 0} (beats : X → X → Bool) → IsStrictWeakOrder beats → (x y z : X) → beats x y ≡ true → beats y z ≡ true → beats x z ≡ true
beats-chain beats order x y z first second = cases (beats x z) refl
  where
    cases : (b : Bool) → beats x z ≡ b → beats x z ≡ true
    cases true e = e
    cases false e = let not_back = order.one_way y z second in let not_first = order.chain x z y e not_back in cc

-- an item behind others: the first of the best of all is that of the others, or the item that beats it
pub first_best-push : {X : Type 0} (beats : X → X → Bool) → IsStrictWeakOrder beats → (xs : List X) (x : X)
    → first_best beats (xs ++ x ∷ []) ≡ or_later beats (first_best beats xs) x
first_best-push beats order [] x = refl
first_best-push {X} beats order (y ∷ ys) x =
    ap (λ o. Some (or_earlier beats y o)) (first_best-push beats order ys x) ∙ cases (first_best beats ys)
  where
    three : (z : X) (a b c : Bool) → beats x z ≡ a → beats z y ≡ b → beats x y ≡ c
        → Some (or_earlier beats y (if a then Some x else Some z)) ≡ (if beats x (if b then z else y) then Some x else Some (if b then z else y))
    three z true true true e f g = cc
    three z true true false e f g = let h = beats-chain beats order x z y e f in cc
    three z true false c e f g = elim (beats x y) as (λ d. Some (if d then x else y) ≡ (if d then Some x else Some y)) [ true ↦ refl | false ↦ refl ]
    three z false true c e f g = cc
    three z false false true e f g = let h = order.chain x z y e f in cc
    three z false false false e f g = cc

    cases : (o : Option X) → Some (or_earlier beats y (or_later beats o x)) ≡ or_later beats (Some (or_earlier beats y o)) x
    cases None = elim (beats x y) as (λ d. Some (if d then x else y) ≡ (if d then Some x else Some y)) [ true ↦ refl | false ↦ refl ]
    cases (Some z) = three z (beats x z) (beats z y) (beats x y) refl refl refl

-- what holds of all items holds of the chosen one
pub first_best-all : {X : Type 0} (beats : X → X → Bool) (P : X → Type 0) (xs : List X) (x : X) → All P xs → first_best beats xs ≡ Some x → P x
first_best-all beats P [] x each is = absurd (cc)
first_best-all {X} beats P (y ∷ ys) x each is =
    chosen (λ z e. first_best-all beats P ys z (All-tail P y ys each) e) (first_best beats ys) refl is
  where
    here : P y
    here = All-head P y ys each

    picked : (z : X) → P z → (b : Bool) → (if b then z else y) ≡ x → P x
    picked z there true at = subst P at there
    picked z there false at = subst P at here

    chosen : ((z : X) → first_best beats ys ≡ Some z → P z) → (o : Option X) → first_best beats ys ≡ o → Some (or_earlier beats y o) ≡ Some x → P x
    chosen found None e same = let at : y ≡ x = cc in subst P at here
    chosen found (Some z) e same = let at : (if beats z y then z else y) ≡ x = cc in picked z (found z e) (beats z y) at

-- one after the other, from the first item on
fold-after : {X : Type 0} (beats : X → X → Bool) → IsStrictWeakOrder beats → (xs ys : List X)
    → fold (or_later beats) (first_best beats xs) ys ≡ first_best beats (xs ++ ys)
fold-after beats order xs [] = ap (first_best beats) (sym (append-nil xs))
fold-after beats order xs (y ∷ ys) =
    ap (λ o. fold (or_later beats) o ys) (sym (first_best-push beats order xs y))
    ∙ fold-after beats order (xs ++ y ∷ []) ys ∙ ap (first_best beats) (append_assoc xs (y ∷ []) ys)

pub first_best-fold : {X : Type 0} (beats : X → X → Bool) → IsStrictWeakOrder beats → (xs : List X) → fold (or_later beats) None xs ≡ first_best beats xs
first_best-fold beats order xs = fold-after beats order [] xs

-- what a test keeps passes it
pub filter-passes : {X : Type 0} (p : X → Bool) (P : X → Type 0) (xs : List X) → All P xs → All (λ x. P x × (p x ≡ true)) (filter p xs)
filter-passes p P [] each = All-nil (λ x. P x × (p x ≡ true))
filter-passes {X} p P (x ∷ xs) each = first (p x) refl (filter-passes p P xs (All-tail P x xs each))
  where
    first : (b : Bool) → p x ≡ b → All (λ x. P x × (p x ≡ true)) (filter p xs) → All (λ x. P x × (p x ≡ true)) (cond b (x ∷ filter p xs) (filter p xs))
    first true passed rest = All-cons (λ x. P x × (p x ≡ true)) x (filter p xs) (All-head P x xs each, passed) rest
    first false passed rest = rest
