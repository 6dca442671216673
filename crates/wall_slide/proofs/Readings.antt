-- Sums of two products, as 64 bits hold them.
use Rattle.std.proofs.Common.{◌≡◌, ◌≤◌, ◌^◌, ◌∙◌, ℤ, ◌+ℤ◌, FitsSigned, w64, to_z, of_z, arith}
use Rattle.std.specs.Prelude.{unsigned_abs}
use Rattle.std.proofs.lemmas.Int.{to_z-of_z, fits_signed_from_abs}
use Rattle.nav_base.specs.declared.point.Point.{Point}
use Rattle.nav_base.specs.Point.{HasCoordinates, from_to, dot_of}
use Rattle.nav_base.proofs.Sizes.{unsigned_abs-+ℤ, dot_of-bound, from_to-coordinates}

fits : (n : ℤ) → unsigned_abs n ≤ 2 ^ 36 → FitsSigned w64 n
fits n small = fits_signed_from_abs w64 n (omega (arith, small))

-- a sum of two numbers of at most 2 ^ 35, whatever their signs, fits, and is read as it was written
pub record IsSum (m n m' n' : ℤ) : Type 0 where
  pub sum_fits : FitsSigned w64 (to_z w64 (of_z w64 m) +ℤ to_z w64 (of_z w64 n))
  pub reads : to_z w64 (of_z w64 (to_z w64 (of_z w64 m) +ℤ to_z w64 (of_z w64 n))) ≡ m' +ℤ n'

pub sum_read : (m n m' n' : ℤ) → m ≡ m' → n ≡ n' → unsigned_abs m' ≤ 2 ^ 35 → unsigned_abs n' ≤ 2 ^ 35 → IsSum m n m' n'
sum_read m n m' n' e e' small small' = record { sum_fits = it_fits; reads = to_z-of_z w64 _ it_fits ∙ read }
  where
    one : to_z w64 (of_z w64 m) ≡ m'
    one = (λ i. to_z w64 (of_z w64 (e i))) ∙ to_z-of_z w64 m' (fits m' (omega (arith, small)))

    two : to_z w64 (of_z w64 n) ≡ n'
    two = (λ i. to_z w64 (of_z w64 (e' i))) ∙ to_z-of_z w64 n' (fits n' (omega (arith, small')))

    read : to_z w64 (of_z w64 m) +ℤ to_z w64 (of_z w64 n) ≡ m' +ℤ n'
    read = λ i. one i +ℤ two i

    it_fits : FitsSigned w64 (to_z w64 (of_z w64 m) +ℤ to_z w64 (of_z w64 n))
    it_fits = rw read (fits (m' +ℤ n') (omega (arith, unsigned_abs-+ℤ m' n', small, small')))

-- the scalar product of two ways from a point, between points with coordinates
pub dot_small : (p q u v : Point) → HasCoordinates p → HasCoordinates q → HasCoordinates u → HasCoordinates v
    → unsigned_abs (dot_of (from_to p q) (from_to u v)) ≤ 2 ^ 35
dot_small p q u v hp hq hu hv =
    let bound = dot_of-bound (2 ^ 17) (from_to p q) (from_to u v) (from_to-coordinates p q hp hq) (from_to-coordinates u v hu hv) in
    omega (arith, bound)
