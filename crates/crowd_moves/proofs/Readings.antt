-- What the code reads back of numbers that it wrote.
use Rattle.std.proofs.Common.{◌≡◌, ◌≤◌, ◌^◌, ◌∙◌, ap, ap₂, ℤ, ◌+ℤ◌, ◌*ℤ◌, FitsSigned, w32, w64, to_z, of_z, arith, lit<}
use Rattle.std.specs.Int.RustNames.{unsigned_abs}
use Rattle.std.proofs.lemmas.Int.{to_z-of_z, fits_signed_from_abs, fits_signed_mul, unsigned_abs-mul}
use Rattle.std.proofs.lemmas.Nat.{mul-le}
use Rattle.nav_base.proofs.Sizes.{unsigned_abs-+ℤ}

fits_within : (n : ℤ) → unsigned_abs n ≤ 2 ^ 32 → FitsSigned w64 n
fits_within n p = fits_signed_from_abs w64 n (omega arith)

-- a number of at most 2 ^ 32, whatever its sign, is read as it was written
pub reads_within : (n : ℤ) → unsigned_abs n ≤ 2 ^ 32 → to_z w64 (of_z w64 n) ≡ n
reads_within n p = to_z-of_z w64 n (fits_within n p)

product_read : (m n : ℤ) → unsigned_abs m ≤ 2 ^ 31 → unsigned_abs n ≤ 2 ^ 31 → to_z w64 (of_z w64 m) *ℤ to_z w64 (of_z w64 n) ≡ m *ℤ n
product_read m n p q = ap₂ ◌*ℤ◌ (reads_within m (omega arith)) (reads_within n (omega arith))

-- the product of two that are at most 2 ^ 31 fits, and is read as their product
pub product_fits : (m n : ℤ) → unsigned_abs m ≤ 2 ^ 31 → unsigned_abs n ≤ 2 ^ 31 → FitsSigned w64 (to_z w64 (of_z w64 m) *ℤ to_z w64 (of_z w64 n))
product_fits m n p q = rw (product_read m n p q) (fits_signed_mul w64 m n (2 ^ 31) (2 ^ 31) p q (lit< tt))

pub product_is_read : (m n : ℤ) → unsigned_abs m ≤ 2 ^ 31 → unsigned_abs n ≤ 2 ^ 31 → to_z w64 (of_z w64 (to_z w64 (of_z w64 m) *ℤ to_z w64 (of_z w64 n))) ≡ m *ℤ n
product_is_read m n p q = to_z-of_z w64 _ (product_fits m n p q) ∙ product_read m n p q

pub product_bound : (m n : ℤ) → unsigned_abs m ≤ 2 ^ 15 → unsigned_abs n ≤ 2 ^ 15 → unsigned_abs (m *ℤ n) ≤ 2 ^ 30
product_bound m n p q = rw (unsigned_abs-mul m n) (mul-le (unsigned_abs m) (unsigned_abs n) (2 ^ 15) (2 ^ 15) p q)

-- a product of two parts, read from 32 bits, is theirs
reads_short : (n : ℤ) → unsigned_abs n ≤ 2 ^ 15 → to_z w32 (of_z w32 n) ≡ n
reads_short n p = to_z-of_z w32 n (fits_signed_from_abs w32 n (omega arith))

pub short_product_reads : (r m n : ℤ) → unsigned_abs m ≤ 2 ^ 15 → unsigned_abs n ≤ 2 ^ 15 → r ≡ to_z w32 (of_z w32 m) *ℤ to_z w32 (of_z w32 n) → r ≡ m *ℤ n
short_product_reads r m n p q is = is ∙ ap₂ ◌*ℤ◌ (reads_short m p) (reads_short n q)

-- the sum of two such products is read as their sum
pub sum_is_read : (m n : ℤ) → unsigned_abs m ≤ 2 ^ 30 → unsigned_abs n ≤ 2 ^ 30 → to_z w64 (of_z w64 (to_z w64 (of_z w64 m) +ℤ to_z w64 (of_z w64 n))) ≡ m +ℤ n
sum_is_read m n p q =
    ap (λ (k : ℤ). to_z w64 (of_z w64 k)) (ap₂ ◌+ℤ◌ (reads_within m (omega arith)) (reads_within n (omega arith)))
    ∙ reads_within (m +ℤ n) (omega (arith, unsigned_abs-+ℤ m n))

-- a number read from a product
pub product_reads : (r m n : ℤ) → FitsSigned w64 r → unsigned_abs m ≤ 2 ^ 31 → unsigned_abs n ≤ 2 ^ 31 → r ≡ to_z w64 (of_z w64 m) *ℤ to_z w64 (of_z w64 n)
    → to_z w64 (of_z w64 r) ≡ m *ℤ n
product_reads r m n fits p q is = to_z-of_z w64 r fits ∙ is ∙ product_read m n p q
