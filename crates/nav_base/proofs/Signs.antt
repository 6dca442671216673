-- The signs of products of whole numbers.
use Rattle.std.proofs.Common.{◌≡◌, zero, suc, ◌*◌, ◌≤◌, ℤ, pos, negsuc, ◌*ℤ◌, ◌≤ℤ◌, ◌<ℤ◌, arith}
use Rattle.std.proofs.lemmas.Int.{ints}
use Rattle.std.proofs.lemmas.Nat.{mul-le}
use lib.IntN.{*ℤ-zero}

-- a square is not negative
pub square-not_negative : (n : ℤ) → pos 0 ≤ℤ (n *ℤ n)
square-not_negative (pos n) = omega (arith, ints)
square-not_negative (negsuc n) = omega (arith, ints)

-- a product of two numbers that are not negative
pub product-not_negative : (a b : ℤ) → pos 0 ≤ℤ a → pos 0 ≤ℤ b → pos 0 ≤ℤ (a *ℤ b)
product-not_negative (pos m) (pos n) p q = omega (arith, ints)
product-not_negative (pos m) (negsuc n) p q = absurd (omega (arith, ints))
product-not_negative (negsuc m) b p q = absurd (omega (arith, ints))

-- a product of a number that is not negative and one that is not positive
pub product-not_positive : (a b : ℤ) → pos 0 ≤ℤ a → b ≤ℤ pos 0 → (a *ℤ b) ≤ℤ pos 0
product-not_positive (pos m) (pos zero) p q = omega (arith, ints)
product-not_positive (pos m) (pos (suc n)) p q = absurd (omega (arith, ints))
product-not_positive (pos m) (negsuc n) p q = omega (arith, ints)
product-not_positive (negsuc m) b p q = absurd (omega (arith, ints))

-- a product of two positive numbers
pub product-positive : (a b : ℤ) → pos 0 <ℤ a → pos 0 <ℤ b → pos 0 <ℤ (a *ℤ b)
product-positive (pos m) (pos n) p q = let some : 1 * 1 ≤ m * n = mul-le 1 1 m n (omega (arith, ints)) (omega (arith, ints)) in omega (arith, ints)
product-positive (pos m) (negsuc n) p q = absurd (omega (arith, ints))
product-positive (negsuc m) b p q = absurd (omega (arith, ints))

-- a product of a positive number and a negative one
pub product-negative : (a b : ℤ) → pos 0 <ℤ a → b <ℤ pos 0 → (a *ℤ b) <ℤ pos 0
product-negative (pos m) (pos n) p q = absurd (omega (arith, ints))
product-negative (pos m) (negsuc n) p q = let some : 1 * 1 ≤ m * suc n = mul-le 1 1 m (suc n) (omega (arith, ints)) (omega arith) in omega (arith, ints)
product-negative (negsuc m) b p q = absurd (omega (arith, ints))

-- a factor beside a positive one has the product's sign
pub factor-not_negative : (a b : ℤ) → pos 0 <ℤ a → pos 0 ≤ℤ (a *ℤ b) → pos 0 ≤ℤ b
factor-not_negative a (pos n) p q = omega (arith, ints)
factor-not_negative a (negsuc n) p q = absurd (apart (a *ℤ negsuc n) (product-negative a (negsuc n) p (omega (arith, ints))) q)
  where
    apart : (c : ℤ) → c <ℤ pos 0 → pos 0 ≤ℤ c → ⊥
    apart c h k = omega (arith, ints)

pub factor-not_positive : (a b : ℤ) → pos 0 <ℤ a → (a *ℤ b) ≤ℤ pos 0 → b ≤ℤ pos 0
factor-not_positive a (pos zero) p q = omega (arith, ints)
factor-not_positive a (pos (suc n)) p q = absurd (apart (a *ℤ pos (suc n)) (product-positive a (pos (suc n)) p (omega (arith, ints))) q)
  where
    apart : (c : ℤ) → pos 0 <ℤ c → c ≤ℤ pos 0 → ⊥
    apart c h k = omega (arith, ints)
factor-not_positive a (negsuc n) p q = omega (arith, ints)

pub factor-positive : (a b : ℤ) → pos 0 <ℤ a → pos 0 <ℤ (a *ℤ b) → pos 0 <ℤ b
factor-positive a (pos zero) p q = absurd (apart (*ℤ-zero a) q)
  where
    apart : {c : ℤ} → c ≡ pos 0 → pos 0 <ℤ c → ⊥
    apart h k = omega (arith, ints)
factor-positive a (pos (suc n)) p q = omega (arith, ints)
factor-positive a (negsuc n) p q = absurd (apart (a *ℤ negsuc n) (product-negative a (negsuc n) p (omega (arith, ints))) q)
  where
    apart : (c : ℤ) → c <ℤ pos 0 → pos 0 <ℤ c → ⊥
    apart c h k = omega (arith, ints)

-- a factor beside a positive one is 0 where the product is
pub factor-zero : (a b : ℤ) → pos 0 <ℤ a → a *ℤ b ≡ pos 0 → b ≡ pos 0
factor-zero a b p e = same b (factor-not_negative a b p (low (a *ℤ b) e)) (factor-not_positive a b p (high (a *ℤ b) e))
  where
    low : (c : ℤ) → c ≡ pos 0 → pos 0 ≤ℤ c
    low c e = omega (arith, ints)

    high : (c : ℤ) → c ≡ pos 0 → c ≤ℤ pos 0
    high c e = omega (arith, ints)

    same : (c : ℤ) → pos 0 ≤ℤ c → c ≤ℤ pos 0 → c ≡ pos 0
    same c h k = omega (arith, ints)
