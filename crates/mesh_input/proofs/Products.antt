-- Products and differences in 64 bits, as they are read.
use Rattle.std.proofs.Common.{◌≡◌, ℕ, ◌≤◌, ◌^◌, ℤ, ◌-ℤ◌, ◌*ℤ◌, w64, to_z, of_z, sym, subst, ap, ap₂, ◌∙◌, arith}
use Rattle.std.specs.Int.RustNames.{unsigned_abs}
use Rattle.std.proofs.lemmas.Int.{ints, to_z-of_z, fits_signed_from_abs, unsigned_abs-mul}
use Rattle.std.proofs.lemmas.Nat.{mul-le}

pub reads : (n : ℤ) → unsigned_abs n ≤ 2 ^ 62 → to_z w64 (of_z w64 n) ≡ n
reads n small = to_z-of_z w64 n (fits_signed_from_abs w64 n (omega (arith, small)))

pub product_small : (a b : ℤ) → unsigned_abs a ≤ 5000000 → unsigned_abs b ≤ 5000000 → unsigned_abs (a *ℤ b) ≤ 25000000000000
product_small a b h k = subst (λ (n : ℕ). n ≤ 25000000000000) (sym (unsigned_abs-mul a b)) (mul-le (unsigned_abs a) (unsigned_abs b) 5000000 5000000 h k)

pub difference_small : (a b : ℤ) → unsigned_abs a ≤ 25000000000000 → unsigned_abs b ≤ 25000000000000 → unsigned_abs (a -ℤ b) ≤ 50000000000000
difference_small a b h k = omega (arith, ints)

pub read_product : (a b : ℤ) → unsigned_abs a ≤ 5000000 → unsigned_abs b ≤ 5000000 → to_z w64 (of_z w64 a) *ℤ to_z w64 (of_z w64 b) ≡ a *ℤ b
read_product a b h k = ap₂ ◌*ℤ◌ (reads a (omega (arith, h))) (reads b (omega (arith, k)))

-- a product that was found is read as it is
pub found_product : (n a b : ℤ) → unsigned_abs a ≤ 5000000 → unsigned_abs b ≤ 5000000 → unsigned_abs n ≤ 25000000000000 → n ≡ to_z w64 (of_z w64 a) *ℤ to_z w64 (of_z w64 b) → to_z w64 (of_z w64 n) ≡ a *ℤ b
found_product n a b h k small e = reads n (omega (arith, small)) ∙ e ∙ read_product a b h k

-- and so is the difference of two
pub read_difference : (m n a b c d : ℤ) → unsigned_abs a ≤ 5000000 → unsigned_abs b ≤ 5000000 → unsigned_abs c ≤ 5000000 → unsigned_abs d ≤ 5000000
    → to_z w64 (of_z w64 m) ≡ a *ℤ b → to_z w64 (of_z w64 n) ≡ c *ℤ d
    → to_z w64 (of_z w64 (to_z w64 (of_z w64 m) -ℤ to_z w64 (of_z w64 n))) ≡ a *ℤ b -ℤ c *ℤ d
read_difference m n a b c d ha hb hc hd e f =
    ap (λ (z : ℤ). to_z w64 (of_z w64 z)) (ap₂ ◌-ℤ◌ e f)
    ∙ reads (a *ℤ b -ℤ c *ℤ d) (omega (arith, difference_small (a *ℤ b) (c *ℤ d) (product_small a b ha hb) (product_small c d hc hd)))

pub read_shadow : (n a b c d : ℤ) → unsigned_abs a ≤ 5000000 → unsigned_abs b ≤ 5000000 → unsigned_abs c ≤ 5000000 → unsigned_abs d ≤ 5000000 → unsigned_abs n ≤ 50000000000000
    → n ≡ to_z w64 (of_z w64 a) *ℤ to_z w64 (of_z w64 b) -ℤ to_z w64 (of_z w64 c) *ℤ to_z w64 (of_z w64 d) → to_z w64 (of_z w64 n) ≡ a *ℤ b -ℤ c *ℤ d
read_shadow n a b c d ha hb hc hd small e = reads n (omega (arith, small)) ∙ e ∙ ap₂ ◌-ℤ◌ (read_product a b ha hb) (read_product c d hc hd)
