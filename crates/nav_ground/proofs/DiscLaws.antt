-- Laws of discs: what lies under a disc lies in the square round it, and the tests tell what does.
use Rattle.std.proofs.Common.{◌≡◌, ℕ, zero, suc, ◌+◌, ◌*◌, ◌<◌, ◌≤◌, ◌↔◌, ℤ, pos, ◌+ℤ◌, ◌-ℤ◌, Bool, true, false, refl, inl, inr, arith}
use Rattle.std.specs.Prelude.{int_lt, unsigned_abs, if◌then◌else◌}
use Rattle.std.proofs.lemmas.Bool.{cases_lt}
use Rattle.std.proofs.lemmas.Bool.Decides.{nat_tests}
use Rattle.std.proofs.lemmas.Int.{ints}
use Rattle.std.proofs.lemmas.Nat.{mul-lt, mul-le}
use Rattle.nav_ground.specs.Prisms.{IsReached}
use Rattle.nav_ground.specs.Discs.{gap, off_middle, IsUnderDisc, is_under_disc}

-- a side of a right triangle is shorter than the reach where the longest one is, and not longer where that is not
shorter : (a b reach : ℕ) → a * a + b * b < reach * reach → a < reach
shorter a b reach near = elim (cases_lt a reach) [ inl less ↦ less | inr far ↦ absurd (omega (arith, mul-le reach reach a a far far)) ]

shorter' : (a b reach : ℕ) → a * a + b * b < reach * reach → b < reach
shorter' a b reach near = elim (cases_lt b reach) [ inl less ↦ less | inr far ↦ absurd (omega (arith, mul-le reach reach b b far far)) ]

within : (a b reach : ℕ) → a * a + b * b ≤ reach * reach → a ≤ reach
within a b reach near = elim (cases_lt reach a) [ inl far ↦ absurd (omega (arith, mul-lt reach reach a a far far)) | inr close ↦ close ]

within' : (a b reach : ℕ) → a * a + b * b ≤ reach * reach → b ≤ reach
within' a b reach near = elim (cases_lt reach b) [ inl far ↦ absurd (omega (arith, mul-lt reach reach b b far far)) | inr close ↦ close ]

-- so the column has a part between the least and the greatest of the disc's numbers
gap_reached : (c : ℤ) (r x : ℕ) → gap c x < r → IsReached (c -ℤ pos r) (c +ℤ pos r) x
gap_reached c r x near = before (int_lt c (pos (16 * x))) (int_lt (pos (16 * x + 16)) c) refl refl near
  where
    before : (s t : Bool) → s ≡ int_lt c (pos (16 * x)) → t ≡ int_lt (pos (16 * x + 16)) c
        → (if s then unsigned_abs (pos (16 * x) -ℤ c) else (if t then unsigned_abs (c -ℤ pos (16 * x + 16)) else 0)) < r
        → IsReached (c -ℤ pos r) (c +ℤ pos r) x
    before true t es et h = record { after = omega (arith, ints); before = omega (arith, ints) }
    before false true es et h = record { after = omega (arith, ints); before = omega (arith, ints) }
    before false false es et h = record { after = omega (arith, ints); before = omega (arith, ints) }

middle_reached : (c : ℤ) (r x : ℕ) → off_middle c x ≤ r → IsReached (c -ℤ pos r) (c +ℤ pos r) x
middle_reached c r x near = record { after = omega (arith, ints); before = omega (arith, ints) }

pub under_disc_reached : (area : ℕ) (cx cz : ℤ) (r x z : ℕ) → IsUnderDisc area cx cz r x z
    → IsReached (cx -ℤ pos r) (cx +ℤ pos r) x × IsReached (cz -ℤ pos r) (cz +ℤ pos r) z
under_disc_reached zero cx cz r x z near =
    (gap_reached cx r x (shorter (gap cx x) (gap cz z) r near), gap_reached cz r z (shorter' (gap cx x) (gap cz z) r near))
under_disc_reached (suc area) cx cz r x z near =
    (middle_reached cx r x (within (off_middle cx x) (off_middle cz z) r near), middle_reached cz r z (within' (off_middle cx x) (off_middle cz z) r near))

pub under_disc_tells : (area : ℕ) (cx cz : ℤ) (r x z : ℕ) → (is_under_disc area cx cz r x z ≡ true) ↔ IsUnderDisc area cx cz r x z
under_disc_tells zero cx cz r x z = grind (arith, nat_tests)
under_disc_tells (suc area) cx cz r x z = grind (arith, nat_tests)
