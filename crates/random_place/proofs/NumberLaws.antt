-- The number of the spot that a draw names.
use Rattle.std.proofs.Common.{◌≡◌, ℕ, ◌+◌, ◌*◌, ◌/◌, ◌%◌, ◌<◌, List, [], ◌∷◌, length, get_or, refl, sym, ap, ◌∙◌, arith}
use Rattle.std.specs.Prelude.{None, slice_get}
use Rattle.std.proofs.Math.Nat.{mul-add-div_right}
use Rattle.std.proofs.lemmas.Nat.{div-add-mod', div_below, mul-le}
use Rattle.std.proofs.lemmas.Option.{none-some, slice_get-get_or}

-- a quotient of a product, of the parts of a factor
pub of_parts : (m draw count : ℕ) → 0 < m → draw * (count / m) + draw * (count % m) / m ≡ draw * count / m
of_parts m draw count some =
    sym (mul-add-div_right {m = m} some (draw * (count / m)) (draw * (count % m))) ∙ ap (λ n. n / m) (omega (arith, ap (λ n. draw * n) (div-add-mod' count m)))

-- it is less than there are spots
pub number_below : (draw count : ℕ) → draw < 18446744073709551616 → 0 < count → draw * count / 18446744073709551616 < count
number_below draw count small some =
    div_below (draw * count) 18446744073709551616 count (omega arith)
    (omega (arith, some, mul-le draw count 18446744073709551615 count (omega (arith, small)) (omega arith)))

-- where a number below how many there are names none there are none
pub none_there : {X : Type 0} (xs : List X) (n : ℕ) → (0 < length xs → n < length xs) → slice_get xs n ≡ None → xs ≡ []
none_there [] n below none = refl
none_there (x ∷ xs) n below none =
    let there : n < length (x ∷ xs) = below (omega arith) in
    absurd (none-some (get_or (x ∷ xs) n x) (sym none ∙ slice_get-get_or (x ∷ xs) n x there))
