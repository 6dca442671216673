-- Grids of whole numbers under the numbers of a game, which are floats. A float falls on the multiple of a step that is nearest to it.
use Rattle.std.specs.Prelude.{◌≡◌, ◌⊎◌, ℕ, ◌+◌, ◌*◌, ◌%◌, ◌^◌, ◌≤◌, Bool, true, false, ℤ, pos, neg_ℤ}
use Rattle.std.specs.Float.{Float, binary32, fin, ◌≤ᶠ◌}
use Rattle.std.specs.Float.Ieee.{round}
use Rattle.std.specs.Float.Ieee.Exact.{HasValue}
use Rattle.std.specs.Int.{is_negative}
use Rattle.std.specs.Int.RustNames.{unsigned_abs}
use Rattle.world_grid.specs.declared.grid_step.GridStep.{GridStep}

-- the length of a step, counted in the least float above 0, which is 2^-149
abbrev pub length_of : GridStep → ℕ
length_of step = step.digits * 2 ^ step.power

-- n is the whole number nearest to num / den: it is at most a half away, and even where it is just a half away
pub record IsNearest (num den n : ℕ) : Type 0 where
  pub below : 2 * num ≤ (2 * n + 1) * den
  pub above : 2 * n * den ≤ 2 * num + den
  pub even : (2 * num ≡ (2 * n + 1) * den) ⊎ (2 * n * den ≡ 2 * num + den) → n % 2 ≡ 0

-- a whole number with a sign; there is one 0
abbrev pub signed : Bool → ℕ → ℤ
signed false n = pos n
signed true n = neg_ℤ (pos n)

-- A float is so many steps: the multiple of the step that is nearest to it, of two the even one. What is infinite, or no number, is none.
pub record IsSteps (x : Float) (step : GridStep) (n : ℤ) : Type 0 where
  pub negative : Bool
  pub size : ℕ
  pub value : HasValue x negative size (2 ^ 149)
  pub nearest : IsNearest size (length_of step) (unsigned_abs n)
  pub sign : n ≡ signed negative (unsigned_abs n)

-- the float nearest to n steps, as IEEE 754 rounds
abbrev pub told_of : ℤ → GridStep → Float
told_of n step = round binary32 (is_negative n) (unsigned_abs n * length_of step) (2 ^ 149)

-- a cell or a height unit may have this size: 2^-10 to 2^10
pub record IsGridSize (size : Float) : Type 0 where
  pub least : fin false 1 (neg_ℤ (pos 10)) ≤ᶠ size
  pub most : size ≤ᶠ fin false 1 (pos 10)

-- 2^finer steps are the size, which a cell or a height unit may have
pub record IsStepOf (size : Float) (finer : ℕ) (step : GridStep) : Type 0 where
  pub allowed : IsGridSize size
  pub value : HasValue size false (length_of step * 2 ^ finer) (2 ^ 149)
