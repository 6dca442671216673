-- Lists in an order in which only equal elements tie: they are determined by how often each element stands in them.
use Rattle.std.proofs.Common.{◌≡◌, ℕ, ◌<◌, ◌≤◌, Bool, true, false, cond, List, [], ◌∷◌, length, get_or, ap, ◌∙◌, sym, refl, subst, arith, suc}
use Rattle.std.specs.Prelude.{not, All}
use Rattle.std.specs.List.{count_by}
use Rattle.std.specs.List.Sorted.{IsSortedBy}
use Rattle.std.specs.Cmp.{IsStrictWeakOrder}
use Rattle.std.proofs.lemmas.Bool.{both_ways}
use Rattle.std.proofs.lemmas.List.Elements.{All-cons, All-weaker}
use Rattle.std.proofs.lemmas.List.Sorted.{sorted_far}
use Rattle.std.proofs.lemmas.List.Sums.{sum_by-cons}
use Rattle.mesh_types.proofs.Keyed.{count_yes, count_none}

-- no later element comes before an earlier one
abbrev pub Rises : {X : Type 0} → (X → X → Bool) → List X → Type 0
Rises lt [] = Unit {0}
Rises lt (x ∷ xs) = All (λ y. lt y x ≡ false) xs × Rises lt xs

rises_from_pairs : {X : Type 0} (lt : X → X → Bool) (xs : List X)
    → ((i j : ℕ) (d : X) → i ≤ j → j < length xs → lt (get_or xs j d) (get_or xs i d) ≡ false) → Rises lt xs
rises_from_pairs lt [] pairs = tt
rises_from_pairs lt (x ∷ xs) pairs = (
  λ k d there. pairs 0 (suc k) d (omega arith) (omega (arith, there)),
  rises_from_pairs lt xs (λ i j d le there. pairs (suc i) (suc j) d (omega (arith, le)) (omega (arith, there))),
)

pub rises_from_sorted : {X : Type 0} (lt : X → X → Bool) (xs : List X) → IsStrictWeakOrder lt → IsSortedBy lt xs → Rises lt xs
rises_from_sorted lt xs order sorted = rises_from_pairs lt xs (sorted_far lt order xs sorted)

not_itself : {X : Type 0} (lt : X → X → Bool) → IsStrictWeakOrder lt → (x : X) → lt x x ≡ false
not_itself lt order x = by_case (lt x x) refl
  where
    by_case : (b : Bool) → lt x x ≡ b → b ≡ false
    by_case true before = sym before ∙ order.one_way x x before
    by_case false after = refl

-- an element that comes before the first of a list comes before all
before_all : {X : Type 0} (lt : X → X → Bool) → IsStrictWeakOrder lt → (x y : X) (ys : List X) → Rises lt (y ∷ ys) → lt x y ≡ true
    → All (λ w. not (lt x w) ≡ false) (y ∷ ys)
before_all {X = X} lt order x y ys rises before =
    All-cons (λ w. not (lt x w) ≡ false) y ys (ap not before)
    (All-weaker (λ w. lt w y ≡ false) (λ w. not (lt x w) ≡ false) later ys rises.0)
  where
    by_case : (w : X) → lt w y ≡ false → (b : Bool) → lt x w ≡ b → not b ≡ false
    by_case w after true is = refl
    by_case w after false is = absurd (both_ways (lt x y) (order.chain x w y is after) before)

    later : (w : X) → lt w y ≡ false → not (lt x w) ≡ false
    later w after = by_case w after (lt x w) refl

-- so two lists with the same elements do not begin with elements of which one comes before the other
no_earlier : {X : Type 0} (lt : X → X → Bool) → IsStrictWeakOrder lt → (x y : X) (xs ys : List X) → Rises lt (y ∷ ys)
    → ((p : X → Bool) → count_by p (x ∷ xs) ≡ count_by p (y ∷ ys)) → lt x y ≡ true → ⊥
no_earlier lt order x y xs ys rises counts before =
    let here = count_yes (λ w. not (lt x w)) x xs (ap not (not_itself lt order x)) in
    let none = count_none (λ w. not (lt x w)) (y ∷ ys) (before_all lt order x y ys rises before) in
    omega (arith, here, none, counts (λ w. not (lt x w)))

rest_counts : {X : Type 0} (x : X) (xs ys : List X) → ((p : X → Bool) → count_by p (x ∷ xs) ≡ count_by p (x ∷ ys)) → (p : X → Bool)
    → count_by p xs ≡ count_by p ys
rest_counts x xs ys counts p =
    omega (arith, sum_by-cons (λ w. cond (p w) 1 0) x xs, sum_by-cons (λ w. cond (p w) 1 0) x ys, counts p)

-- lists in order with the same elements are the same
pub same_in_order : {X : Type 0} (lt : X → X → Bool) → IsStrictWeakOrder lt → ((x y : X) → lt x y ≡ false → lt y x ≡ false → x ≡ y)
    → (xs ys : List X) → Rises lt xs → Rises lt ys → ((p : X → Bool) → count_by p xs ≡ count_by p ys) → xs ≡ ys
same_in_order lt order tie [] [] up up' counts = refl
same_in_order lt order tie [] (y ∷ ys) up up' counts =
    absurd (omega (arith, counts (λ w. true), count_yes (λ w. true) y ys refl))
same_in_order lt order tie (x ∷ xs) [] up up' counts =
    absurd (omega (arith, counts (λ w. true), count_yes (λ w. true) x xs refl))
same_in_order {X = X} lt order tie (x ∷ xs) (y ∷ ys) up up' counts =
    let same : x ≡ y = tie x y
    (not-true' (no_earlier lt order x y xs ys up' counts))
    (not-true' (no_earlier lt order y x ys xs up (λ p. sym (counts p)))) in
    let P : X → Type 0 = λ z. (p : X → Bool) → count_by p (x ∷ xs) ≡ count_by p (z ∷ ys) in
    let rest = same_in_order lt order tie xs ys up.1 up'.1 (rest_counts x xs ys (subst P (sym same) counts)) in
    cc
  where
    not-true' : {b : Bool} → (b ≡ true → ⊥) → b ≡ false
    not-true' {b = true} h = absurd (h refl)
    not-true' {b = false} h = refl
