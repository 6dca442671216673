-- What the code reads back of numbers that it wrote into 64 bits.
use Rattle.std.proofs.Common.{◌≡◌, ◌≤◌, ◌^◌, ◌∙◌, ap₂, ℤ, ◌+ℤ◌, ◌-ℤ◌, ◌*ℤ◌, FitsSigned, w64, to_z, of_z, arith, lit<}
use Rattle.std.specs.Int.RustNames.{unsigned_abs}
use Rattle.std.proofs.lemmas.Int.{to_z-of_z, fits_signed_from_abs, fits_signed_mul}
use Rattle.nav_base.specs.Reach.{IsWithinReach}
use Rattle.nav_base.proofs.Sizes.{unsigned_abs-+ℤ, unsigned_abs--ℤ}

-- a number of at most 2 ^ 35, whatever its sign, fits
fits_within : (n : ℤ) → unsigned_abs n ≤ 2 ^ 35 → FitsSigned w64 n
fits_within n p = fits_signed_from_abs w64 n (omega arith)

-- and so it is read as it was written
reads_within : (n : ℤ) → unsigned_abs n ≤ 2 ^ 35 → to_z w64 (of_z w64 n) ≡ n
reads_within n p = to_z-of_z w64 n (fits_within n p)

-- the product of two numbers within reach, as they are read
product_read : (m n : ℤ) → IsWithinReach m → IsWithinReach n → to_z w64 (of_z w64 m) *ℤ to_z w64 (of_z w64 n) ≡ m *ℤ n
product_read m n p q = ap₂ ◌*ℤ◌ (reads_within m (omega arith)) (reads_within n (omega arith))

-- it fits
pub product_fits : (m n : ℤ) → IsWithinReach m → IsWithinReach n → FitsSigned w64 (to_z w64 (of_z w64 m) *ℤ to_z w64 (of_z w64 n))
product_fits m n p q = rw (product_read m n p q) (fits_signed_mul w64 m n (2 ^ 17) (2 ^ 17) p.near q.near (lit< tt))

-- and is read as the product of the two
pub product_is_read : (m n : ℤ) → IsWithinReach m → IsWithinReach n → to_z w64 (of_z w64 (to_z w64 (of_z w64 m) *ℤ to_z w64 (of_z w64 n))) ≡ m *ℤ n
product_is_read m n p q = to_z-of_z w64 _ (product_fits m n p q) ∙ product_read m n p q

-- a number that is such a product is read as it, too
pub product_reads : (r m n : ℤ) → IsWithinReach m → IsWithinReach n → r ≡ to_z w64 (of_z w64 m) *ℤ to_z w64 (of_z w64 n) → to_z w64 (of_z w64 r) ≡ m *ℤ n
product_reads r m n p q is = rw is (product_is_read m n p q)

-- the sum of two products fits
pub sum_fits : (m n : ℤ) → unsigned_abs m ≤ 2 ^ 34 → unsigned_abs n ≤ 2 ^ 34 → FitsSigned w64 (to_z w64 (of_z w64 m) +ℤ to_z w64 (of_z w64 n))
sum_fits m n p q =
    rw (reads_within m (omega arith), reads_within n (omega arith)) (fits_within (m +ℤ n) (omega (arith, unsigned_abs-+ℤ m n)))

-- and their difference
pub difference_fits : (m n : ℤ) → unsigned_abs m ≤ 2 ^ 34 → unsigned_abs n ≤ 2 ^ 34 → FitsSigned w64 (to_z w64 (of_z w64 m) -ℤ to_z w64 (of_z w64 n))
difference_fits m n p q =
    rw (reads_within m (omega arith), reads_within n (omega arith)) (fits_within (m -ℤ n) (omega (arith, unsigned_abs--ℤ m n)))
