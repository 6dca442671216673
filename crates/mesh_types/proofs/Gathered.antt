-- What holds of all that is gathered from the numbers of a range, and from the elements of a list.
use Rattle.std.proofs.Common.{◌≡◌, ℕ, zero, suc, ◌+◌, ◌<◌, ◌≤◌, Bool, true, false, List, [], ◌∷◌, map, filter, ◌∙◌, ap, sym, subst, arith, inl, inr}
use Rattle.std.specs.Prelude.{All, Contains, cond}
use Rattle.std.specs.List.{range_with_len, flat_map}
use Rattle.std.proofs.lemmas.Bool.{cases_order, cond-true}
use Rattle.std.proofs.lemmas.List.{get_or-map, length-map}
use Rattle.std.proofs.lemmas.List.Elements.{All-append, All-nil, All-head, All-tail, Contains-append_left, Contains-append_right}

-- what holds of what each number of a range gives holds of all that is gathered
pub gathered_all : {B : Type 0} (P : B → Type 0) (f : ℕ → List B) (first count : ℕ) → ((n : ℕ) → first ≤ n → n < first + count → All P (f n))
    → All P (flat_map f (range_with_len first count))
gathered_all P f first zero each = All-nil P
gathered_all P f first (suc count) each =
    All-append P (f first) (flat_map f (range_with_len (first + 1) count)) (each first (omega arith) (omega arith))
    (gathered_all P f (first + 1) count (λ n least most. each n (omega (arith, least)) (omega (arith, most))))

-- what holds of all that each element gives
pub all_of_each : {X Y : Type 0} (P : Y → Type 0) (f : X → List Y) (xs : List X) → All (λ x. All P (f x)) xs → All P (flat_map f xs)
all_of_each P f [] each = All-nil P
all_of_each P f (x ∷ xs) each =
    All-append P (f x) (flat_map f xs) (All-head (λ y. All P (f y)) x xs each) (all_of_each P f xs (All-tail (λ y. All P (f y)) x xs each))

-- what holds of each direction
pub all_four : (P : ℕ → Type 0) → P 0 → P 1 → P 2 → P 3 → All P (range_with_len 0 4)
all_four P zero' one two three zero d there = zero'
all_four P zero' one two three (suc zero) d there = one
all_four P zero' one two three (suc (suc zero)) d there = two
all_four P zero' one two three (suc (suc (suc zero))) d there = three
all_four P zero' one two three (suc (suc (suc (suc k)))) d there = absurd (omega (arith, there))

-- what a number of a range gives is gathered
pub gathered_held : {B : Type 0} (f : ℕ → List B) (x : B) (first count n : ℕ) → first ≤ n → n < first + count → Contains (f n) x
    → Contains (flat_map f (range_with_len first count)) x
gathered_held f x first zero n least most held = absurd (omega (arith, least, most))
gathered_held f x first (suc count) n least most held = elim (cases_order first n) [
  | inl same ↦
      let P : ℕ → Type 0 = λ m. Contains (f m) x in
      Contains-append_left (f first) (flat_map f (range_with_len (first + 1) count)) x (subst P (sym same) held)
  | inr (inl less) ↦
      Contains-append_right (f first) (flat_map f (range_with_len (first + 1) count)) x
      (gathered_held f x (first + 1) count n (omega (arith, less)) (omega (arith, most)) held)
  | inr (inr more) ↦ absurd (omega (arith, more, least))
]

-- what an element gives stands among all that is made of the list
pub Contains-map : {X Y : Type 0} (f : X → Y) (xs : List X) (x : X) → Contains xs x → Contains (map f xs) (f x)
Contains-map f xs x held =
    let made = get_or-map f xs held.0 x (f x) held.1 in
    (held.0, omega (arith, held.1, length-map xs f), made ∙ ap f held.2)

-- an element that passes is among those that pass
pub Contains-filter : {X : Type 0} (p : X → Bool) (xs : List X) (x : X) → Contains xs x → p x ≡ true → Contains (filter p xs) x
Contains-filter p [] x held passes = absurd (omega (arith, held.1))
Contains-filter {X = X} p (y ∷ xs) x (zero, there, same) passes =
    let P : List X → Type 0 = λ ys. Contains ys x in
    subst P (sym (cond-true (p y) (y ∷ filter p xs) (filter p xs) (ap p same ∙ passes))) (0, omega arith, same)
Contains-filter {X = X} p (y ∷ xs) x (suc k, there, same) passes =
    by_case (p y) (Contains-filter p xs x (k, omega (arith, there), same) passes)
  where
    by_case : (b : Bool) → Contains (filter p xs) x → Contains (cond b (y ∷ filter p xs) (filter p xs)) x
    by_case true held = Contains-append_right (y ∷ []) (filter p xs) x held
    by_case false held = held

-- what an element gives is gathered
pub Contains-flat_map : {X Y : Type 0} (f : X → List Y) (xs : List X) (x : X) (y : Y) → Contains xs x → Contains (f x) y → Contains (flat_map f xs) y
Contains-flat_map f [] x y held inside = absurd (omega (arith, held.1))
Contains-flat_map f (z ∷ xs) x y (zero, there, same) inside =
    Contains-append_left (f z) (flat_map f xs) y (subst (λ w. Contains (f w) y) (sym same) inside)
Contains-flat_map f (z ∷ xs) x y (suc k, there, same) inside =
    Contains-append_right (f z) (flat_map f xs) y (Contains-flat_map f xs x y (k, omega (arith, there), same) inside)
