-- What is found in a list that was put in order.
use Rattle.std.proofs.Common.{◌≡◌, ℕ, zero, suc, ◌+◌, ◌<◌, ◌≤◌, Bool, true, false, cond, length, List, [], ◌∷◌, drop, filter, get_or, Option, Some, None, ap, ◌∙◌, sym, refl, arith, inl, inr}
use Rattle.std.specs.Prelude.{All, not}
use Rattle.std.specs.List.{find}
use Rattle.std.specs.List.Sorted.{IsSortedBy, IsStableBy, ties}
use Rattle.std.specs.Cmp.{IsStrictWeakOrder}
use Rattle.std.proofs.lemmas.Bool.{and_from, both_ways, cases_Bool, cond-true, cond-false, false_from_ne_true, not_from_false, true_from_ne_false}
use Rattle.std.proofs.lemmas.List.{drop_more}
use Rattle.std.proofs.lemmas.List.Elements.{All-head, All-tail}
use Rattle.std.proofs.lemmas.List.Sorted.{sorted_far}
use Rattle.nav_ground.proofs.Found.{find_none}

-- a search looks only at what a weaker test keeps
pub find-filter : {X : Type 0} (p q : X → Bool) (xs : List X) → All (λ x. p x ≡ true → q x ≡ true) xs → find p (filter q xs) ≡ find p xs
find-filter p q [] weaker = refl
find-filter {X = X} p q (x ∷ xs) weaker =
    let rest = find-filter p q xs (All-tail (λ y. p y ≡ true → q y ≡ true) x xs weaker) in
    let here = All-head (λ y. p y ≡ true → q y ≡ true) x xs weaker in
    elim (cases_Bool (q x)) [
      | inl kept ↦
          ap (find p) (cond-true (q x) (x ∷ filter q xs) (filter q xs) kept) ∙ ap (λ (o : Option X). cond (p x) (Some x) o) rest
      | inr left ↦
          ap (find p) (cond-false (q x) (x ∷ filter q xs) (filter q xs) left) ∙ rest
          ∙ sym (cond-false (p x) (Some x) (find p xs) (false_from_ne_true (p x) (λ passes. both_ways (q x) left (here passes))))
    ]

-- where all that passes ties with one element, the order does not change what is found
pub find-sorted : {X : Type 0} (before : X → X → Bool) (p : X → Bool) (x : X) (xs sorted : List X) → IsStableBy before xs sorted
    → All (λ y. p y ≡ true → ties before x y ≡ true) xs → All (λ y. p y ≡ true → ties before x y ≡ true) sorted → find p sorted ≡ find p xs
find-sorted before p x xs sorted stable tie tie' =
    sym (find-filter p (ties before x) sorted tie') ∙ ap (find p) (stable x) ∙ find-filter p (ties before x) xs tie

-- elements that do not pass are passed by
pub find-drop : {X : Type 0} (p : X → Bool) (xs : List X) (n : ℕ) → ((k : ℕ) (d : X) → k < n → k < length xs → p (get_or xs k d) ≡ false)
    → find p (drop n xs) ≡ find p xs
find-drop p xs zero fails = refl
find-drop p [] (suc n) fails = refl
find-drop p (x ∷ xs) (suc n) fails =
    find-drop p xs n (λ k d below there. fails (suc k) d (omega (arith, below)) (omega (arith, there)))
    ∙ sym (cond-false (p x) (Some x) (find p xs) (fails 0 x (omega arith) (omega arith)))

pub find-drop_more : {X : Type 0} (p : X → Bool) (xs : List X) (k : ℕ) (d : X) → k < length xs → p (get_or xs k d) ≡ false
    → find p (drop (k + 1) xs) ≡ find p (drop k xs)
find-drop_more p xs k d there fails =
    sym (ap (find p) (drop_more xs k d there) ∙ cond-false (p (get_or xs k d)) (Some (get_or xs k d)) (find p (drop (k + 1) xs)) fails)

pub find-drop_here : {X : Type 0} (p : X → Bool) (xs : List X) (k : ℕ) (d : X) → k < length xs → p (get_or xs k d) ≡ true
    → find p (drop k xs) ≡ Some (get_or xs k d)
find-drop_here p xs k d there passes =
    ap (find p) (drop_more xs k d there) ∙ cond-true (p (get_or xs k d)) (Some (get_or xs k d)) (find p (drop (k + 1) xs)) passes

pub find-drop_none : {X : Type 0} (p : X → Bool) (xs : List X) (n : ℕ) → ((k : ℕ) (d : X) → n ≤ k → k < length xs → p (get_or xs k d) ≡ false)
    → find p (drop n xs) ≡ None
find-drop_none p xs zero fails = find_none p xs (λ k d there. fails k d (omega arith) there)
find-drop_none p [] (suc n) fails = refl
find-drop_none p (x ∷ xs) (suc n) fails = find-drop_none p xs n (λ k d above there. fails (suc k) d (omega (arith, above)) (omega (arith, there)))

-- no element comes before itself
pub not_itself : {X : Type 0} (before : X → X → Bool) → IsStrictWeakOrder before → (x : X) → before x x ≡ false
not_itself before order x = false_from_ne_true (before x x) (λ is. both_ways (before x x) (order.one_way x x is) is)

pub tie-from : {X : Type 0} (before : X → X → Bool) (x y : X) → before x y ≡ false → before y x ≡ false → ties before x y ≡ true
tie-from before x y less more = and_from (not (before x y)) (not (before y x)) (not_from_false (before x y) less) (not_from_false (before y x) more)

-- after an element that comes behind x, all do
pub behind_all : {X : Type 0} (before : X → X → Bool) → IsStrictWeakOrder before → (xs : List X) → IsSortedBy before xs → (x : X) (n k : ℕ) (d : X)
    → n ≤ k → k < length xs → before x (get_or xs n d) ≡ true → before x (get_or xs k d) ≡ true
behind_all before order xs sorted x n k d le there behind =
    true_from_ne_false (before x (get_or xs k d)) (λ ahead.
    both_ways (before x (get_or xs n d)) (order.chain x (get_or xs k d) (get_or xs n d) ahead (sorted_far before order xs sorted n k d le there)) behind)
