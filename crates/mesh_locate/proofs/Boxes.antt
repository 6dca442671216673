-- The box of corners: it is none wider than they need, and each lies in it.
use Rattle.std.proofs.Common.{ℕ, zero, suc, ◌<◌, ℤ, pos, ◌≤ℤ◌, List, [], ◌∷◌, length, map, get_or, sym, subst, arith}
use Rattle.std.specs.Prelude.{All}
use Rattle.std.specs.Int.{int_min, int_max}
use Rattle.std.proofs.lemmas.Int.{ints, clamps}
use Rattle.std.proofs.lemmas.List.{get_or-map, length-map}
use Rattle.std.proofs.lemmas.List.Elements.{All-map}
use Rattle.nav_base.specs.declared.point.Point.{Point}
use Rattle.nav_base.specs.Convex.{corner_at}
use Rattle.mesh_types.specs.Extents.{least_of, greatest_of}

-- the least of numbers is none above the first and none above any other, and the greatest none below
least_first : (first : ℤ) (xs : List ℤ) → least_of first xs ≤ℤ first
least_first first [] = omega (arith, ints)
least_first first (x ∷ xs) = omega (arith, ints, clamps, least_first (int_min first x) xs)

greatest_first : (first : ℤ) (xs : List ℤ) → first ≤ℤ greatest_of first xs
greatest_first first [] = omega (arith, ints)
greatest_first first (x ∷ xs) = omega (arith, ints, clamps, greatest_first (int_max first x) xs)

least_other : (first : ℤ) (xs : List ℤ) (i : ℕ) (d : ℤ) → i < length xs → least_of first xs ≤ℤ get_or xs i d
least_other first [] i d there = absurd (omega (arith, there))
least_other first (x ∷ xs) zero d there = omega (arith, ints, clamps, least_first (int_min first x) xs)
least_other first (x ∷ xs) (suc i) d there = least_other (int_min first x) xs i d (omega (arith, there))

greatest_other : (first : ℤ) (xs : List ℤ) (i : ℕ) (d : ℤ) → i < length xs → get_or xs i d ≤ℤ greatest_of first xs
greatest_other first [] i d there = absurd (omega (arith, there))
greatest_other first (x ∷ xs) zero d there = omega (arith, ints, clamps, greatest_first (int_max first x) xs)
greatest_other first (x ∷ xs) (suc i) d there = greatest_other (int_max first x) xs i d (omega (arith, there))

-- a bound of all numbers is one of the least and of the greatest
least_bound : (k first : ℤ) (xs : List ℤ) → k ≤ℤ first → All (λ x. k ≤ℤ x) xs → k ≤ℤ least_of first xs
least_bound k first [] low each = low
least_bound k first (x ∷ xs) low each =
    let here : k ≤ℤ x = each 0 x (omega arith) in
    least_bound k (int_min first x) xs (omega (arith, ints, clamps)) (λ i d there. each (suc i) d (omega (arith, there)))

greatest_bound : (k first : ℤ) (xs : List ℤ) → first ≤ℤ k → All (λ x. x ≤ℤ k) xs → greatest_of first xs ≤ℤ k
greatest_bound k first [] high each = high
greatest_bound k first (x ∷ xs) high each =
    let here : x ≤ℤ k = each 0 x (omega arith) in
    greatest_bound k (int_max first x) xs (omega (arith, ints, clamps)) (λ i d there. each (suc i) d (omega (arith, there)))

-- along one axis: the least and the greatest coordinate of corners
module _ (c : Point → ℤ) (corners : List Point) where
  abbrev pub low : ℤ
  low = least_of (c (corner_at corners 0)) (map c corners)

  abbrev pub high : ℤ
  high = greatest_of (c (corner_at corners 0)) (map c corners)

  each-map : (P : ℤ → Type 0) → All (λ p. P (c p)) corners → All P (map c corners)
  each-map P each = All-map P c corners each

  pub low-corner : (i : ℕ) → i < length corners → low ≤ℤ c (corner_at corners i)
  low-corner i there =
      subst (λ (n : ℤ). low ≤ℤ n) (get_or-map c corners i (record { x = pos 0; z = pos 0 }) (pos 0) there)
      (least_other (c (corner_at corners 0)) (map c corners) i (pos 0) (subst (λ (n : ℕ). i < n) (sym (length-map corners c)) there))

  pub high-corner : (i : ℕ) → i < length corners → c (corner_at corners i) ≤ℤ high
  high-corner i there =
      subst (λ (n : ℤ). n ≤ℤ high) (get_or-map c corners i (record { x = pos 0; z = pos 0 }) (pos 0) there)
      (greatest_other (c (corner_at corners 0)) (map c corners) i (pos 0) (subst (λ (n : ℕ). i < n) (sym (length-map corners c)) there))

  pub low-bound : (k : ℤ) → 0 < length corners → All (λ p. k ≤ℤ c p) corners → k ≤ℤ low
  low-bound k some each =
      least_bound k (c (corner_at corners 0)) (map c corners) (each 0 (record { x = pos 0; z = pos 0 }) some) (each-map (λ n. k ≤ℤ n) each)

  pub high-bound : (k : ℤ) → 0 < length corners → All (λ p. c p ≤ℤ k) corners → high ≤ℤ k
  high-bound k some each =
      greatest_bound k (c (corner_at corners 0)) (map c corners) (each 0 (record { x = pos 0; z = pos 0 }) some) (each-map (λ n. n ≤ℤ k) each)
