-- The parts of a size that a cell or a height unit may have.
use Rattle.std.proofs.Common.{◌≡◌, ℕ, ◌+◌, ◌-◌, ◌*◌, ◌^◌, ◌<◌, ◌≤◌, Bool, true, false, T, pos, negsuc, refl, sym, ap, ◌∙◌, subst, inl, inr, arith, le_trans, lt_of_lt_of_le, mul_assoc, pow_pos, pow_mono, pow-add, lit≤}
use Rattle.std.proofs.lemmas.Bool.{cases_lt}
use Rattle.std.specs.Float.{Float, nan, inf, fin, float_is_finite}
use native.Mathlib.Nat.{mul-le-mul, mul-le-mul_left, mul-lt-mul_of_pos_right, mul-one}
use lib.Count.{count_trailing_zeros}
use Rattle.std.specs.Prelude.{MatchBool}
use Rattle.std.proofs.lemmas.Float.{T_from_true}
use lib.Ieee.{binary32, le, of_bits, of_fields, odd}
use lib.Ieee.Exact.{HasValue}
use lib.Ieee.Positive.{positive, between, values_of_le}
use Rattle.world_grid.specs.Grid.{IsGridSize}
use Rattle.world_grid.specs.FloatParts.{HasParts}
use Rattle.world_grid.specs.declared.float_parts.FloatParts.{FloatParts}

above_zero : (x : Float) (s : Bool) (a c : ℕ) → T (positive x) → HasValue x s a c → s ≡ false
above_zero nan s a c p h = absurd p
above_zero (inf t) s a c p h = absurd p
above_zero (fin true m e) s a c p h = absurd p
above_zero (fin false m e) s a c p h = sym h.0

-- a number of 24 digits is 2^139 at least, so it has a power of 116 at least
power_least : (a p : ℕ) → a < 2 ^ 24 → 2 ^ 139 ≤ a * 2 ^ p → 116 ≤ p
power_least a p few h =
    elim (cases_lt p 116) [
      | inl less ↦ absurd (over (a * 2 ^ p) h (lt_of_lt_of_le (mul-lt-mul_of_pos_right few (pow_pos p)) (most p less)))
      | inr more ↦ more
    ]
  where
    most : (p : ℕ) → p < 116 → 2 ^ 24 * 2 ^ p ≤ 2 ^ 24 * 2 ^ 115
    most p less = mul-le-mul_left (2 ^ 24) (pow_mono {j = 115} (omega arith))

    over : (x : ℕ) → 2 ^ 139 ≤ x → ¬ (x < 2 ^ 24 * 2 ^ 115)
    over x h less = omega arith

power_most : (a p : ℕ) → 2 ^ 23 ≤ a → a * 2 ^ p ≤ 2 ^ 159 → p ≤ 136
power_most a p leading h =
    elim (cases_lt p 137) [
      | inl less ↦ omega arith
      | inr more ↦ absurd (over (a * 2 ^ p) h (mul-le-mul leading (pow_mono {i = 137} more)))
    ]
  where
    over : (x : ℕ) → x ≤ 2 ^ 159 → ¬ (2 ^ 23 * 2 ^ 137 ≤ x)
    over x h more = omega arith

pub record HasSizeParts (parts : FloatParts) : Type 0 where
  pub positive : parts.negative ≡ false
  pub least : 116 ≤ parts.power
  pub leading : 2 ^ 23 ≤ parts.digits
  pub most : parts.power ≤ 136

cut : (z : ℕ) → 1 * 2 ^ 149 ≤ z * 2 ^ 10 → 2 ^ 139 ≤ z
cut z h = omega arith

is_positive : (x : Float) → IsGridSize x → T (positive x)
is_positive x h = between (fin false 1 (negsuc 9)) x (fin false 1 (pos 10)) tt tt h.least h.most

finite : (x : Float) → T (positive x) → float_is_finite x ≡ true
unfolding float_is_finite
finite nan p = absurd p
finite (inf s) p = absurd p
finite (fin s m e) p = refl

pub is_finite : (x : Float) → IsGridSize x → float_is_finite x ≡ true
is_finite x h = finite x (is_positive x h)

pub size_parts : (x : Float) (parts : FloatParts) → IsGridSize x → HasParts x parts → HasSizeParts parts
size_parts x parts h value =
    let a = parts.digits in
    let p = parts.power in
    let low = fin false 1 (negsuc 9) in
    let high = fin false 1 (pos 10) in
    let above : T (positive x) = is_positive x h in
    let sign = above_zero x parts.negative (a * 2 ^ p) (2 ^ 149) above value in
    let own : HasValue x false (a * 2 ^ p) (2 ^ 149) = subst (λ (s : Bool). HasValue x s (a * 2 ^ p) (2 ^ 149)) sign value in
    let least : 1 * 2 ^ 149 ≤ a * 2 ^ p * 2 ^ 10 = values_of_le low x 1 (2 ^ 10) (a * 2 ^ p) (2 ^ 149) tt above (refl, refl) own h.least in
    let most : a * 2 ^ p * 1 ≤ 2 ^ 10 * 2 ^ 149 = values_of_le x high (a * 2 ^ p) (2 ^ 149) (2 ^ 10) 1 above tt own (refl, refl) h.most in
    let power = power_least a p parts.few (cut (a * 2 ^ p) least) in
    let full = parts.leading (le_trans (lit≤ tt) power) in
    record { positive = sign; least = power; leading = full; most = power_most a p full (subst (λ (z : ℕ). z ≤ 2 ^ 159) (mul-one (a * 2 ^ p)) most) }

-- the two ends, as the code's bits give them
pub least_is : of_bits binary32 981467136 ≡ fin false 1 (negsuc 9)
unfolding of_bits of_fields odd count_trailing_zeros
least_is = refl

pub most_is : of_bits binary32 1149239296 ≡ fin false 1 (pos 10)
unfolding of_bits of_fields odd count_trailing_zeros
most_is = refl

-- both ends are tested
pub by_most : (x : Float) → le (of_bits binary32 981467136) x ≡ true → MatchBool (le x (of_bits binary32 1149239296)) (IsGridSize x) (¬ IsGridSize x)
by_most x e =
    subst (λ (high : Float). MatchBool (le x high) (IsGridSize x) (¬ IsGridSize x)) (sym most_is)
    (go (le x (fin false 1 (pos 10))) refl (subst (λ (low : Float). le low x ≡ true) least_is e))
  where
    go : (b : Bool) → le x (fin false 1 (pos 10)) ≡ b → le (fin false 1 (negsuc 9)) x ≡ true → MatchBool b (IsGridSize x) (¬ IsGridSize x)
    go true most least = record { least = T_from_true _ least; most = T_from_true _ most }
    go false most least = λ h. subst T most h.most

pub by_least : (x : Float) → le (of_bits binary32 981467136) x ≡ false → MatchBool (le (of_bits binary32 981467136) x) (IsGridSize x) (¬ IsGridSize x)
by_least x e =
    subst (λ (b : Bool). MatchBool b (IsGridSize x) (¬ IsGridSize x)) (sym e) (λ h. subst T (subst (λ (low : Float). le low x ≡ false) least_is e) h.least)

-- a size, counted in finer steps
pub finer_value : (x : Float) (negative : Bool) (a p k : ℕ) → negative ≡ false → k ≤ p → HasValue x negative (a * 2 ^ p) (2 ^ 149) → HasValue x false (a * 2 ^ (p - k) * 2 ^ k) (2 ^ 149)
finer_value x negative a p k sign h value =
    subst (λ (s : Bool). HasValue x s (a * 2 ^ (p - k) * 2 ^ k) (2 ^ 149)) sign
    (subst (λ (size : ℕ). HasValue x negative size (2 ^ 149)) (ap (λ (z : ℕ). a * z) (ap (λ (z : ℕ). 2 ^ z) (whole p k h) ∙ pow-add 2 (p - k) k) ∙ sym (mul_assoc a (2 ^ (p - k)) (2 ^ k))) value)
  where
    whole : (p k : ℕ) → k ≤ p → p ≡ p - k + k
    whole p k h = omega arith
