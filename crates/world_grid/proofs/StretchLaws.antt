-- Columns from one number of sixteenths to another.
use Rattle.std.proofs.Common.{◌≡◌, ℕ, ◌^◌, ◌<◌, ◌≤◌, ℤ, pos, ◌+ℤ◌, ◌*ℤ◌, ◌≤ℤ◌, ◌<ℤ◌, sym, ap, ◌∙◌, arith, false, w32, to_z, of_z}
use Rattle.std.specs.Int.Signed.{lt_z}
use Rattle.std.specs.Int.RustNames.{unsigned_abs}
use Rattle.std.proofs.lemmas.Int.{ints, to_z-of_z, fits_signed_from_abs}
use Rattle.world_grid.specs.Frames.{IsStretch}
use Rattle.world_grid.specs.declared.frame.Stretch.{Stretch}

pub one_part : (a b : ℤ) (p q : ℕ) → p < 16 → q < 16 → pos 16 *ℤ a +ℤ pos p ≡ pos 16 *ℤ b +ℤ pos q → p ≡ q
one_part a b p q h k e = omega (arith, ints)

pub one_first : (a b : ℤ) (p q : ℕ) → p < 16 → q < 16 → pos 16 *ℤ a +ℤ pos p ≡ pos 16 *ℤ b +ℤ pos q → a ≡ b
one_first a b p q h k e = omega (arith, ints)

pub one_rest : (a : ℤ) (p q : ℕ) → a +ℤ pos p ≡ a +ℤ pos q → p ≡ q
one_rest a p q e = omega (arith, ints)

pub ordered : (a low high : ℤ) (p q : ℕ) → low ≡ a +ℤ pos p → high ≡ a +ℤ pos q → p ≤ q → ¬ (high <ℤ low)
ordered a low high p q e f h less = grind (arith, ints)

pub small_first : (a n : ℤ) (p : ℕ) → p < 16 → n ≡ pos 16 *ℤ a +ℤ pos p → unsigned_abs n < 2 ^ 23 → unsigned_abs a < 2 ^ 23
small_first a n p h e small = omega (arith, ints)

pub first_order : (low high first : ℤ) (part : ℕ) → low ≡ pos 16 *ℤ first +ℤ pos part → lt_z high low ≡ false → (pos 16 *ℤ first) ≤ℤ high
first_order low high first part e h = grind (arith, ints)

pub part_order : (low high first : ℤ) (part rest : ℕ) → low ≡ pos 16 *ℤ first +ℤ pos part → high ≡ pos 16 *ℤ first +ℤ pos rest → lt_z high low ≡ false → part ≤ rest
part_order low high first part rest e f h = grind (arith, ints)

-- any other columns from the one number to the other begin as these do
pub same_rest : (low high : ℤ) (first : ℤ) (part rest : ℕ) (stretch : Stretch) → low ≡ pos 16 *ℤ first +ℤ pos part → part < 16 → high ≡ pos 16 *ℤ first +ℤ pos rest
    → (is : IsStretch low high stretch) → is.rest ≡ rest
same_rest low high first part rest stretch e close f is =
    let same = one_first stretch.first first is.part part is.first close (sym is.low_is ∙ e) in
    one_rest (pos 16 *ℤ first) is.rest rest (sym (ap (λ (a : ℤ). pos 16 *ℤ a +ℤ pos is.rest) same) ∙ sym is.high_is ∙ f)

pub narrow_reads : (n : ℤ) → unsigned_abs n < 2 ^ 23 → to_z w32 (of_z w32 n) ≡ n
narrow_reads n small = to_z-of_z w32 n (fits_signed_from_abs w32 n (omega (arith, small)))

pub moved : (n a b : ℤ) (p : ℕ) → a ≡ b → n ≡ pos 16 *ℤ a +ℤ pos p → n ≡ pos 16 *ℤ b +ℤ pos p
moved n a b p e h = h ∙ ap (λ (z : ℤ). pos 16 *ℤ z +ℤ pos p) e
