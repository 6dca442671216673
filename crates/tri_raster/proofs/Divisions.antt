-- Quotients, down and up.
use Rattle.std.proofs.Common.{◌≡◌, ℕ, ◌+◌, ◌*◌, ◌/◌, ◌%◌, ◌≤◌, ◌<◌, inl, inr, arith}
use Rattle.std.specs.Int.{div_ceil}
use Rattle.std.proofs.lemmas.Nat.{mul-le, div-add-mod'}
use Rattle.std.proofs.lemmas.Bool.{cases_lt}
use Rattle.std.proofs.Math.Nat.{le_refl}

-- a product grows with its factor, and shrinks with it
pub times_le : (a b s : ℕ) → a ≤ b → a * s ≤ b * s
times_le a b s h = mul-le a s b s h (le_refl s)

pub times_lt : (a b s : ℕ) → 0 < s → a < b → a * s < b * s
times_lt a b s some h = omega (arith, times_le (a + 1) b s (omega arith))

pub factor_le : (a b s : ℕ) → 0 < s → a * s ≤ b * s → a ≤ b
factor_le a b s some h = elim (cases_lt b a) [ inl less ↦ absurd (omega (arith, times_lt b a s some less)) | inr more ↦ more ]

pub factor_lt : (a b s : ℕ) → a * s < b * s → a < b
factor_lt a b s h = elim (cases_lt a b) [ inl less ↦ less | inr more ↦ absurd (omega (arith, times_le b a s more)) ]

pub quotient_times : (x s : ℕ) → x / s * s ≤ x
quotient_times x s = omega (arith, div-add-mod' x s)

pub quotient_above : (x s : ℕ) → 0 < s → x < (x / s + 1) * s
quotient_above x s some = omega (arith, div-add-mod' x s)

pub quotient_most : (x s k : ℕ) → 0 < s → k * s ≤ x → k ≤ x / s
quotient_most x s k some h = omega (arith, factor_lt k (x / s + 1) s (omega (arith, quotient_above x s some)))

pub quotient_least : (x s k : ℕ) → x < k * s → x / s < k
quotient_least x s k h = factor_lt (x / s) k s (omega (arith, quotient_times x s))

pub ceiling_times : (x s : ℕ) → 0 < s → x ≤ div_ceil x s * s
ceiling_times x s some = elim (cases_lt 0 (x % s)) [
  | inl more ↦ let e : div_ceil x s ≡ x / s + 1 = omega arith in omega (arith, div-add-mod' x s, times_le (x / s + 1) (div_ceil x s) s (omega arith))
  | inr none ↦ let e : div_ceil x s ≡ x / s = omega arith in omega (arith, div-add-mod' x s, times_le (x / s) (div_ceil x s) s (omega arith))
]

pub ceiling_above : (x s : ℕ) → 0 < s → div_ceil x s * s < x + s
ceiling_above x s some = elim (cases_lt 0 (x % s)) [
  | inl more ↦ let e : div_ceil x s ≡ x / s + 1 = omega arith in omega (arith, div-add-mod' x s, times_le (div_ceil x s) (x / s + 1) s (omega arith))
  | inr none ↦ let e : div_ceil x s ≡ x / s = omega arith in omega (arith, div-add-mod' x s, times_le (div_ceil x s) (x / s) s (omega arith))
]

pub ceiling_least : (x s k : ℕ) → 0 < s → x ≤ k * s → div_ceil x s ≤ k
ceiling_least x s k some h = omega (arith, factor_lt (div_ceil x s) (k + 1) s (omega (arith, ceiling_above x s some)))

pub ceiling_most : (x s k : ℕ) → 0 < s → k * s < x → k < div_ceil x s
ceiling_most x s k some h = factor_lt k (div_ceil x s) s (omega (arith, ceiling_times x s some))

pub below_ceiling : (x s k : ℕ) → 0 < s → k < div_ceil x s → k * s < x
below_ceiling x s k some h = omega (arith, times_le (k + 1) (div_ceil x s) s (omega arith), ceiling_above x s some)
