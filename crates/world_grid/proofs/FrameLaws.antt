-- The field of a frame: there is one at most.
use Rattle.std.proofs.Common.{◌≡◌, ℕ, ◌^◌, ◌<◌, ◌≤◌, false, ℤ, pos, ◌+ℤ◌, ◌*ℤ◌, arith, ap, ◌∙◌, subst, subst₂, sym, pow_pos, w32, w64, to_z, of_z, lt_trans, lit<}
use Rattle.std.specs.Int.RustNames.{unsigned_abs}
use Rattle.std.specs.Float.{Float}
use Rattle.std.proofs.lemmas.Int.{ints, to_z-of_z, fits_signed_from_abs}
use lib.Signed.{mag, nat_abs-le}
use native.Mathlib.Nat.{eq_of_mul-eq-mul_right}
use Rattle.world_grid.specs.Grid.{IsNearest, IsSteps, IsStepOf, length_of, told_of}
use Rattle.world_grid.specs.Frames.{IsStretch, IsStretchBetween, IsFloorOf, AreSteps, IsWithinHeight}
use Rattle.world_grid.specs.Places.{IsOffset}
use Rattle.world_grid.specs.declared.grid_step.GridStep.{GridStep}
use Rattle.world_grid.specs.declared.frame.Stretch.{Stretch}
use Rattle.world_grid.proofs.ValueLaws.{one_value}
use Rattle.world_grid.proofs.Readings.{reads}
use Rattle.world_grid.proofs.StretchLaws.{narrow_reads, small_first}

-- a size has one step
pub one_length : (size : Float) (k : ℕ) (a b : GridStep) → IsStepOf size k a → IsStepOf size k b → length_of a ≡ length_of b
one_length size k a b p q = eq_of_mul-eq-mul_right (2 ^ k) (pow_pos k) (length_of a) (length_of b) (one_value size false false _ _ (2 ^ 149) p.value q.value).1

by_length : (x : Float) (a b : GridStep) (n : ℤ) → length_of a ≡ length_of b → IsSteps x a n → IsSteps x b n
by_length x a b n e h = record {
  negative = h.negative;
  size = h.size;
  value = h.value;
  nearest = subst (λ (l : ℕ). IsNearest h.size l (unsigned_abs n)) e h.nearest;
  sign = h.sign;
}

ends_by_length : (low high : Float) (a b : GridStep) (from to : ℤ) → length_of a ≡ length_of b → AreSteps low high a from to → AreSteps low high b from to
ends_by_length low high a b from to e h = record {
  low_is = by_length low a b from e h.low_is;
  low_near = h.low_near;
  high_is = by_length high a b to e h.high_is;
  high_near = h.high_near;
}

pub stretch_by_length : (low high : Float) (a b : GridStep) (stretch : Stretch) → length_of a ≡ length_of b → IsStretchBetween low high a stretch → IsStretchBetween low high b stretch
stretch_by_length low high a b stretch e h = record { from = h.from; to = h.to; ends = ends_by_length low high a b h.from h.to e h.ends; is = h.is }

pub floor_by_length : (low high : Float) (a b : GridStep) (y : ℤ) → length_of a ≡ length_of b → IsFloorOf low high a y → IsFloorOf low high b y
floor_by_length low high a b y e h = record { to = h.to; ends = ends_by_length low high a b y h.to e h.ends; is = h.is }

-- the ends are the numbers that were found
pub at_ends : (low high : Float) (cell : GridStep) (from to : ℤ) (stretch : Stretch) → ((m : ℤ) → IsSteps low cell m → m ≡ from) → ((m : ℤ) → IsSteps high cell m → m ≡ to)
    → IsStretchBetween low high cell stretch → IsStretch from to stretch
at_ends low high cell from to stretch one other h =
    subst₂ (λ (a b : ℤ). IsStretch a b stretch) (one h.from h.ends.low_is) (other h.to h.ends.high_is) h.is

pub at_floor : (low high : Float) (unit : GridStep) (from to y : ℤ) → ((m : ℤ) → IsSteps low unit m → m ≡ from) → ((m : ℤ) → IsSteps high unit m → m ≡ to)
    → IsFloorOf low high unit y → IsWithinHeight from to
at_floor low high unit from to y one other h = subst₂ IsWithinHeight (one y h.ends.low_is) (other h.to h.ends.high_is) h.is

-- a number of few steps, in 64 bits and then in 32
pub narrowed : (n : ℤ) → unsigned_abs n < 2 ^ 23 → to_z w32 (of_z w32 (to_z w64 (of_z w64 n))) ≡ n
narrowed n small = ap (λ (z : ℤ). to_z w32 (of_z w32 z)) (reads n (lt_trans small (lit< tt))) ∙ narrow_reads n small

-- a column of a stretch is few columns from 0
pub column_reads : (low high : Float) (cell : GridStep) (stretch : Stretch) → IsStretchBetween low high cell stretch → to_z w32 (of_z w32 stretch.first) ≡ stretch.first
column_reads low high cell stretch h = narrow_reads stretch.first (small_first stretch.first h.from h.is.part h.is.first h.is.low_is h.ends.low_near)

pub floor_reads : (low high : Float) (unit : GridStep) (y : ℤ) → IsFloorOf low high unit y → to_z w32 (of_z w32 y) ≡ y
floor_reads low high unit y h = narrow_reads y h.ends.low_near

pub offset_by_length : (x : Float) (a b : GridStep) (from n : ℤ) → length_of a ≡ length_of b → IsOffset x a from n → IsOffset x b from n
offset_by_length x a b from n e h = record { begins = h.begins; is = by_length x a b (from +ℤ n) e h.is; near = h.near }

-- the corner of a frame, as the code reads it
wide : (n : ℤ) → unsigned_abs n ≤ 2147483648 → unsigned_abs (pos 16 *ℤ n) ≤ 34359738368
wide n h = omega (arith, ints)

pub cells_read : (m n : ℤ) → mag n < 2147483648 → m ≡ pos 16 *ℤ to_z w32 (of_z w32 n) → to_z w64 (of_z w64 m) ≡ pos 16 *ℤ n
cells_read m n fits e =
    ap (λ (z : ℤ). to_z w64 (of_z w64 z)) (e ∙ ap (λ (z : ℤ). pos 16 *ℤ z) (to_z-of_z w32 n (record { sfits = fits })))
    ∙ to_z-of_z w64 (pos 16 *ℤ n) (fits_signed_from_abs w64 (pos 16 *ℤ n) (omega (arith, wide n (nat_abs-le n fits))))

pub units_read : (m n : ℤ) → mag n < 2147483648 → m ≡ to_z w32 (of_z w32 n) → to_z w64 (of_z w64 m) ≡ n
units_read m n fits e =
    ap (λ (z : ℤ). to_z w64 (of_z w64 z)) (e ∙ to_z-of_z w32 n (record { sfits = fits })) ∙ to_z-of_z w64 n (fits_signed_from_abs w64 n (omega (arith, nat_abs-le n fits)))

apart : (from n : ℤ) → unsigned_abs from < 2 ^ 23 → unsigned_abs (from +ℤ n) < 2 ^ 23 → unsigned_abs n < 2 ^ 24
apart from n h k = omega (arith, ints)

-- an offset that was found, from the corner that was read
pub offset_reads : (x : Float) (step : GridStep) (a b n : ℤ) → a ≡ b → IsOffset x step a n → IsOffset x step b (to_z w32 (of_z w32 n))
offset_reads x step a b n e h =
    subst₂ (λ (from m : ℤ). IsOffset x step from m) e
    (sym (to_z-of_z w32 n (fits_signed_from_abs w32 n (omega (arith, apart a n h.begins h.near))))) h

-- a number of steps behind others, as the code counts it
abbrev counted_in : ℤ → ℤ → ℤ
counted_in from m = to_z w64 (of_z w64 (to_z w64 (of_z w64 from) +ℤ to_z w64 (of_z w64 m)))

count_reads : (from n m : ℤ) → to_z w64 (of_z w64 from) ≡ from → m ≡ to_z w32 (of_z w32 n) → mag n < 2147483648 → unsigned_abs from < 2 ^ 23 → counted_in from m ≡ from +ℤ n
count_reads from n m whole reads fits near =
    let same = units_read m n fits reads in
    let some = nat_abs-le n fits in
    ap (λ (k : ℤ). to_z w64 (of_z w64 (k +ℤ to_z w64 (of_z w64 m)))) whole
    ∙ ap (λ (k : ℤ). to_z w64 (of_z w64 (from +ℤ k))) same
    ∙ to_z-of_z w64 (from +ℤ n) (fits_signed_from_abs w64 (from +ℤ n) (omega (arith, ints, near, some)))

pub counted : (from n m : ℤ) (a b : ℕ) → to_z w64 (of_z w64 from) ≡ from → m ≡ to_z w32 (of_z w32 n) → mag n < 2147483648
    → a ≡ unsigned_abs (to_z w64 (of_z w64 from)) → b ≡ unsigned_abs (counted_in from m) → a < 2 ^ 23 → b < 2 ^ 23
    → (unsigned_abs from < 2 ^ 23) × (unsigned_abs (from +ℤ n) < 2 ^ 23) × (to_z w32 (of_z w32 (counted_in from m)) ≡ from +ℤ n)
counted from n m a b whole reads fits is count small few =
    let near = subst (λ (k : ℕ). k < 2 ^ 23) (is ∙ ap unsigned_abs whole) small in
    let sum = count_reads from n m whole reads fits near in
    let fewer = subst (λ (k : ℕ). k < 2 ^ 23) (count ∙ ap unsigned_abs sum) few in
    (near, fewer, ap (λ (k : ℤ). to_z w32 (of_z w32 k)) sum ∙ narrow_reads (from +ℤ n) fewer)

pub offset_by : (x : Float) (step : GridStep) (a b n m : ℤ) → a ≡ b → n ≡ m → IsOffset x step a n → IsOffset x step b m
offset_by x step a b n m e f h = subst₂ (IsOffset x step) e f h

-- a number of 32 bits, as the code reads it
pub place_reads : (n : ℤ) → mag n < 2147483648 → to_z w32 (of_z w32 n) ≡ n
place_reads n fits = to_z-of_z w32 n (record { sfits = fits })

pub told_by : {a b n m : ℤ} → a ≡ b → n ≡ m → (step : GridStep) → told_of (a +ℤ n) step ≡ told_of (b +ℤ m) step
told_by {a} {b} {n} {m} e f step = ap (λ (k : ℤ). told_of (k +ℤ n) step) e ∙ ap (λ (k : ℤ). told_of (b +ℤ k) step) f
