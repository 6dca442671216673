-- Whole numbers that the code writes into 64 bits, as they are read.
use Rattle.std.proofs.Common.{◌≡◌, ℕ, ◌*◌, ◌^◌, ◌≤◌, ◌<◌, ℤ, pos, ◌-ℤ◌, ◌*ℤ◌, w64, lit<, to_z, of_z, ap, ap₂, ◌∙◌, arith, lt_of_lt_of_le, lit≤, ◌%◌, lt_of_le_of_lt, mod-eq_of_lt, pow_mono}
use native.Mathlib.Nat.{one-mul}
use Rattle.std.specs.Prelude.{neg_ℤ}
use Rattle.std.specs.Int.RustNames.{unsigned_abs}
use Rattle.std.proofs.lemmas.Int.{ints, to_z-of_z, to_z_pos, fits_signed_from_abs, fits_signed_mul}

pub count_reads : (n : ℕ) → n < 2 ^ 31 → to_z w64 n ≡ pos n
count_reads n small = to_z_pos w64 n (lt_of_lt_of_le small (lit≤ tt))

negated : (n : ℕ) → pos 0 -ℤ pos n ≡ neg_ℤ (pos n)
negated n = omega (arith, ints)

negated_small : (n : ℕ) → n < 2 ^ 31 → unsigned_abs (pos 0 -ℤ pos n) < 2 ^ 31
negated_small n small = omega (arith, ints)

pub negated_reads : (n : ℕ) → n < 2 ^ 31 → to_z w64 (of_z w64 (pos 0 -ℤ to_z w64 n)) ≡ neg_ℤ (pos n)
negated_reads n small =
    ap (λ (z : ℤ). to_z w64 (of_z w64 (pos 0 -ℤ z))) (count_reads n small)
    ∙ to_z-of_z w64 (pos 0 -ℤ pos n) (fits_signed_from_abs w64 (pos 0 -ℤ pos n) (omega (arith, negated_small n small)))
    ∙ negated n

-- a number of 31 bits is read as it was written
pub reads : (n : ℤ) → unsigned_abs n < 2 ^ 31 → to_z w64 (of_z w64 n) ≡ n
reads n small = to_z-of_z w64 n (fits_signed_from_abs w64 n (omega (arith, small)))

-- and so is a product of two that were read
pub product_reads : (m n a b : ℤ) → m ≡ a → n ≡ b → unsigned_abs a < 2 ^ 31 → unsigned_abs b < 2 ^ 31 → to_z w64 (of_z w64 (to_z w64 (of_z w64 m) *ℤ to_z w64 (of_z w64 n))) ≡ a *ℤ b
product_reads m n a b is is' small small' =
    ap (λ (z : ℤ). to_z w64 (of_z w64 z)) (ap₂ ◌*ℤ◌ (ap (λ (x : ℤ). to_z w64 (of_z w64 x)) is ∙ reads a small) (ap (λ (x : ℤ). to_z w64 (of_z w64 x)) is' ∙ reads b small'))
    ∙ to_z-of_z w64 (a *ℤ b) (fits_signed_mul w64 a b 2147483647 2147483647 (omega (arith, small)) (omega (arith, small')) (lit< tt))

-- a power of two in 64 bits
pub power_reads : (j : ℕ) → j ≤ 49 → 1 * 2 ^ j % 18446744073709551616 ≡ 2 ^ j
power_reads j h = ap (λ (a : ℕ). a % 18446744073709551616) (one-mul (2 ^ j)) ∙ mod-eq_of_lt (lt_of_le_of_lt (pow_mono h) (lit< tt))
