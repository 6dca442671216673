-- What the code reads back of numbers that it wrote into 64 bits.
use Rattle.std.proofs.Common.{◌≡◌, ◌≤◌, ◌^◌, ◌∙◌, ap₂, ℤ, ◌-ℤ◌, ◌*ℤ◌, FitsSigned, w32, w64, to_z, of_z, arith, lit<}
use Rattle.std.specs.Int.RustNames.{unsigned_abs}
use Rattle.std.proofs.lemmas.Int.{to_z-of_z, fits_signed_from_abs, fits_signed_mul, unsigned_abs-mul}
use Rattle.std.proofs.lemmas.Nat.{mul-le}
use Rattle.nav_base.proofs.Sizes.{unsigned_abs--ℤ}

-- a number of at most 2 ^ 45, whatever its sign, is read as it was written
fits_within : (n : ℤ) → unsigned_abs n ≤ 2 ^ 45 → FitsSigned w64 n
fits_within n p = fits_signed_from_abs w64 n (omega arith)

pub reads_within : (n : ℤ) → unsigned_abs n ≤ 2 ^ 45 → to_z w64 (of_z w64 n) ≡ n
reads_within n p = to_z-of_z w64 n (fits_within n p)

-- the product of two numbers within reach, as they are read
product_read : (m n : ℤ) → unsigned_abs m ≤ 2 ^ 21 → unsigned_abs n ≤ 2 ^ 21 → to_z w64 (of_z w64 m) *ℤ to_z w64 (of_z w64 n) ≡ m *ℤ n
product_read m n p q = ap₂ ◌*ℤ◌ (reads_within m (omega arith)) (reads_within n (omega arith))

-- it fits
pub product_fits : (m n : ℤ) → unsigned_abs m ≤ 2 ^ 21 → unsigned_abs n ≤ 2 ^ 21 → FitsSigned w64 (to_z w64 (of_z w64 m) *ℤ to_z w64 (of_z w64 n))
product_fits m n p q = rw (product_read m n p q) (fits_signed_mul w64 m n (2 ^ 21) (2 ^ 21) p q (lit< tt))

-- and is read as the product of the two
pub product_is_read : (m n : ℤ) → unsigned_abs m ≤ 2 ^ 21 → unsigned_abs n ≤ 2 ^ 21 → to_z w64 (of_z w64 (to_z w64 (of_z w64 m) *ℤ to_z w64 (of_z w64 n))) ≡ m *ℤ n
product_is_read m n p q = to_z-of_z w64 _ (product_fits m n p q) ∙ product_read m n p q

pub product_bound : (m n : ℤ) → unsigned_abs m ≤ 2 ^ 21 → unsigned_abs n ≤ 2 ^ 21 → unsigned_abs (m *ℤ n) ≤ 2 ^ 42
product_bound m n p q = rw (unsigned_abs-mul m n) (mul-le (unsigned_abs m) (unsigned_abs n) (2 ^ 21) (2 ^ 21) p q)

-- the difference of two products fits
pub difference_fits : (m n : ℤ) → unsigned_abs m ≤ 2 ^ 42 → unsigned_abs n ≤ 2 ^ 42 → FitsSigned w64 (to_z w64 (of_z w64 m) -ℤ to_z w64 (of_z w64 n))
difference_fits m n p q =
    rw (reads_within m (omega arith), reads_within n (omega arith)) (fits_within (m -ℤ n) (omega (arith, unsigned_abs--ℤ m n)))

pub difference_is_read : (m n : ℤ) → unsigned_abs m ≤ 2 ^ 42 → unsigned_abs n ≤ 2 ^ 42
    → to_z w64 (of_z w64 (to_z w64 (of_z w64 m) -ℤ to_z w64 (of_z w64 n))) ≡ m -ℤ n
difference_is_read m n p q = to_z-of_z w64 _ (difference_fits m n p q) ∙ ap₂ ◌-ℤ◌ (reads_within m (omega arith)) (reads_within n (omega arith))

-- a product of two parts is theirs
pub product_reads : (r m n : ℤ) → unsigned_abs m ≤ 2 ^ 21 → unsigned_abs n ≤ 2 ^ 21 → r ≡ to_z w64 (of_z w64 m) *ℤ to_z w64 (of_z w64 n) → r ≡ m *ℤ n
product_reads r m n p q is = is ∙ product_read m n p q

-- a coordinate is read as it was written into 32 bits
reads_short : (n : ℤ) → unsigned_abs n ≤ 2 ^ 20 → to_z w32 (of_z w32 n) ≡ n
reads_short n p = to_z-of_z w32 n (fits_signed_from_abs w32 n (omega arith))

-- and a part of a vector is the difference of two
pub part_reads : (r from to : ℤ) → unsigned_abs from ≤ 2 ^ 20 → unsigned_abs to ≤ 2 ^ 20 → r ≡ to_z w32 (of_z w32 to) -ℤ to_z w32 (of_z w32 from) → r ≡ to -ℤ from
part_reads r from to p q is = is ∙ ap₂ ◌-ℤ◌ (reads_short to q) (reads_short from p)
