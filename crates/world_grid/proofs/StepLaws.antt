-- The size of a float, counted in steps.
use Rattle.std.proofs.Common.{◌≡◌, ℕ, ◌+◌, ◌*◌, ◌^◌, ◌<◌, ◌≤◌, refl, sym, ap, ◌∙◌, subst, arith, le_trans, le_of_eq, lt_of_lt_of_le, lt_of_le_of_lt, mul-le-mul_right, mul_assoc, pow_pos, pow_mono, pow-add, lit<}
use native.Mathlib.Nat.{mul_comm, mul_left_comm, mul-le-mul_left, mul-le-mul, mul-pos, mul-lt-mul_of_pos_right, le_of_mul-le-mul_right, zero-mul}
use Rattle.std.specs.Prelude.{Bool, ℤ}
use Rattle.std.specs.Float.{Float}
use Rattle.std.specs.Int.RustNames.{unsigned_abs}
use lib.Ieee.Exact.{HasValue}
use Rattle.world_grid.specs.Grid.{IsNearest, IsSteps, length_of, signed}
use Rattle.world_grid.specs.declared.grid_step.GridStep.{GridStep}
use Rattle.world_grid.proofs.ValueLaws.{one_value}
use Rattle.world_grid.proofs.NearestLaws.{same_fraction, is_nearest, one_nearest}

-- what is 2^25 times a power of two at most, and a step that is no less
none_of : (a l : ℕ) → 2 * a < l → IsNearest a l 0
none_of a l h = is_nearest a l 0 (record { below = below; above = above; even = λ e. refl })
  where
    below : 2 * a ≤ 2 * (0 * l) + l
    below = omega arith

    above : 2 * (0 * l) ≤ 2 * a + l
    above = subst (λ (z : ℕ). 2 * z ≤ 2 * a + l) (sym (zero-mul l)) (omega arith)

-- powers that are two or more apart: less than half a step
pub small_size : (a p d q : ℕ) → a < 2 ^ 24 → 2 ^ 23 ≤ d → p + 1 < q → IsNearest (a * 2 ^ p) (d * 2 ^ q) 0
small_size a p d q few leading h =
    let power : 2 ^ p * 4 ≤ 2 ^ q = le_trans (le_of_eq (sym (pow-add 2 p 2))) (pow_mono (omega arith)) in
    let size : 2 ^ p * a < 2 ^ p * 16777216 = subst (λ (z : ℕ). z < 2 ^ p * 16777216) (mul_comm a (2 ^ p)) (subst (λ (z : ℕ). a * 2 ^ p < z) (mul_comm 16777216 (2 ^ p)) (mul-lt-mul_of_pos_right few (pow_pos p))) in
    let length : 8388608 * (2 ^ p * 4) ≤ d * 2 ^ q = mul-le-mul leading power in
    let same = mul_comm a (2 ^ p) in
    none_of (a * 2 ^ p) (d * 2 ^ q) (omega arith)

-- a float of as many places over a step is 2^32 steps at least
pub large_size : (a p d q n : ℕ) → 2 ^ 23 ≤ a → d < 2 ^ 24 → 33 + q ≤ p → IsNearest (a * 2 ^ p) (d * 2 ^ q) n → 2 ^ 31 ≤ n
large_size a p d q n leading few h near =
    let power : 8589934592 * 2 ^ q ≤ 2 ^ p = le_trans (le_of_eq (sym (pow-add 2 33 q))) (pow_mono h) in
    let size : 8388608 * (8589934592 * 2 ^ q) ≤ a * 2 ^ p = mul-le-mul leading power in
    let length : d * 2 ^ q ≤ 16777216 * 2 ^ q = mul-le-mul_right (2 ^ q) (omega arith) in
    let most : (2 * n + 1) * (d * 2 ^ q) ≤ (2 * n + 1) * (16777216 * 2 ^ q) = mul-le-mul_left (2 * n + 1) length in
    let both : 8589934592 * (16777216 * 2 ^ q) ≤ (2 * n + 1) * (16777216 * 2 ^ q) = le_trans (omega arith) (le_trans near.below most) in
    let odd : 8589934592 ≤ 2 * n + 1 = le_of_mul-le-mul_right both (mul-pos (lit< tt) (pow_pos q)) in
    omega arith

pub shifted_fits : (a places : ℕ) → a < 2 ^ 24 → places ≤ 33 → a * 2 ^ places < 2 ^ 57
shifted_fits a places few h =
    lt_of_le_of_lt (le_trans (le_of_eq (mul_comm a (2 ^ places))) (mul-le-mul_right a (pow_mono h))) (omega arith)

-- as many places: a fraction of the same value
pub near_steps : (a p d q places n : ℕ) → 2 ^ 23 ≤ d → places + q ≡ p + 1 → IsNearest (a * 2 ^ places) (2 * d) n → IsNearest (a * 2 ^ p) (d * 2 ^ q) n
near_steps a p d q places n leading h near =
    same_fraction (a * 2 ^ places) (2 * d) (a * 2 ^ p) (d * 2 ^ q) n (omega arith) (mul-pos (omega arith) (pow_pos q)) same near
  where
    powers : 2 ^ places * 2 ^ q ≡ 2 ^ p * 2
    powers = sym (pow-add 2 places q) ∙ ap (λ (z : ℕ). 2 ^ z) h ∙ pow-add 2 p 1

    same : a * 2 ^ places * (d * 2 ^ q) ≡ a * 2 ^ p * (2 * d)
    same = regroup (2 ^ places) (2 ^ q) (2 ^ p) powers
      where
        regroup : (x y z : ℕ) → x * y ≡ z * 2 → a * x * (d * y) ≡ a * z * (2 * d)
        regroup x y z e =
            let left : a * x * (d * y) ≡ a * d * (x * y) = simp (mul_assoc, mul_comm, mul_left_comm) in
            let right : a * d * (z * 2) ≡ a * z * (2 * d) = simp (mul_assoc, mul_comm, mul_left_comm) in
            left ∙ ap (λ (w : ℕ). a * d * w) e ∙ right

-- a float has one size
pub steps_near : (x : Float) (step : GridStep) (negative : Bool) (size : ℕ) (n : ℤ) → HasValue x negative size (2 ^ 149) → IsSteps x step n → IsNearest size (length_of step) (unsigned_abs n)
steps_near x step negative size n value h =
    subst (λ (a : ℕ). IsNearest a (length_of step) (unsigned_abs n)) (one_value x h.negative negative h.size size (2 ^ 149) h.value value).1 h.nearest

pub length_pos : (step : GridStep) → 0 < length_of step
length_pos step = mul-pos (lt_of_lt_of_le (lit< tt) step.least) (pow_pos step.power)

pub counted : (x : Float) (step : GridStep) (negative : Bool) (size count : ℕ) (n : ℤ) → HasValue x negative size (2 ^ 149) → IsNearest size (length_of step) count → IsSteps x step n
    → unsigned_abs n ≡ count
counted x step negative size count n value near h =
    one_nearest size (length_of step) (unsigned_abs n) count (length_pos step) (steps_near x step negative size n value h) near

-- so a float has one number of steps
pub one_steps : (x : Float) (step : GridStep) (negative : Bool) (size count : ℕ) (n : ℤ) → HasValue x negative size (2 ^ 149) → IsNearest size (length_of step) count → IsSteps x step n
    → n ≡ signed negative count
one_steps x step negative size count n value near h =
    h.sign ∙ ap (λ (s : Bool). signed s (unsigned_abs n)) (one_value x h.negative negative h.size size (2 ^ 149) h.value value).0
    ∙ ap (signed negative) (counted x step negative size count n value near h)
