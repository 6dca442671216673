-- The order of fractions, and of what exceeds an error.
use Rattle.std.proofs.Common.{◌≡◌, ℕ, ◌+◌, ◌*◌, ◌≤◌, ◌<◌, ℤ, pos, Bool, true, false, cond, refl, ◌⊎◌, inl, inr, arith, lit<}
use Rattle.std.specs.Prelude.{unsigned_abs}
use Rattle.std.specs.Int.Signed.{le_z}
use Rattle.std.proofs.lemmas.Int.{ints}
use Rattle.std.proofs.lemmas.Nat.{mul-le}
use Rattle.std.proofs.lemmas.Bool.{cases_lt}
use Rattle.std.proofs.Math.Nat.{le_refl}
use Rattle.nav_base.specs.declared.point.Point.{Point}
use Rattle.nav_base.specs.declared.deviation.Deviation.{Deviation}
use Rattle.nav_base.specs.Point.{from_to, dot_of, cross_of}
use Rattle.nav_base.specs.Deviation.{Exceeds, IsFraction, IsLess, deviation_of, square_of}

-- what holds of products with a number holds of the factors
cancelled : (x y k : ℕ) → x * k < y * k → x < y
cancelled x y k h = elim (cases_lt x y) [ inl below ↦ below | inr above ↦ absurd (omega (arith, mul-le y k x k above (le_refl k))) ]

cancelled_le : (x y k : ℕ) → 0 < k → x * k ≤ y * k → x ≤ y
cancelled_le x y k some h = elim (cases_lt y x) [ inl above ↦ absurd (omega (arith, mul-le (y + 1) k x k (omega arith) (le_refl k))) | inr below ↦ below ]

scaled : (x y k : ℕ) → x ≤ y → x * k ≤ y * k
scaled x y k h = mul-le x k y k h (le_refl k)

scaled_lt : (x y k : ℕ) → 0 < k → x < y → x * k < y * k
scaled_lt x y k some h = omega (arith, mul-le (x + 1) k y k (omega arith) (le_refl k))

-- a fraction that is not less than another is at least that
at_least : (a b : Deviation) → ¬ (IsLess a b) → b.num * a.den ≤ a.num * b.den
at_least a b not = elim (cases_lt (a.num * b.den) (b.num * a.den)) [ inl below ↦ absurd (not (record { less = below })) | inr above ↦ above ]

-- no fraction is less than itself
pub IsLess-irreflexive : (a : Deviation) → ¬ (IsLess a a)
IsLess-irreflexive a is = omega arith

-- of two fractions at most one is less than the other
pub IsLess-asymmetric : (a b : Deviation) → IsLess a b → ¬ (IsLess b a)
IsLess-asymmetric a b is more = omega arith

-- less than what is less is less
pub IsLess-transitive : (a b c : Deviation) → IsFraction a → IsLess a b → IsLess b c → IsLess a c
IsLess-transitive a b c is first second = record {
  less = cancelled (a.num * c.den) (c.num * a.den) b.den (omega (arith, scaled (a.num * b.den) (b.num * a.den) c.den (omega arith), scaled_lt (b.num * c.den) (c.num * b.den) a.den is.some second.less));
}

-- not less than what is not less is not less: so what is less is less or more than any third fraction
pub IsLess-negatively_transitive : (a b c : Deviation) → IsFraction b → ¬ (IsLess a b) → ¬ (IsLess b c) → ¬ (IsLess a c)
IsLess-negatively_transitive a b c is first second less =
    let at_most : c.num * a.den ≤ a.num * c.den =
    cancelled_le (c.num * a.den) (a.num * c.den) b.den is.some (omega (arith, scaled (b.num * a.den) (a.num * b.den) c.den (at_least a b first), scaled (c.num * b.den) (b.num * c.den) a.den (at_least b c second))) in
    omega arith

-- of two fractions one is less, or their cross products are equal
pub IsLess-cases : (a b : Deviation) → (IsLess a b) ⊎ (IsLess b a) ⊎ (a.num * b.den ≡ b.num * a.den)
IsLess-cases a b = elim (cases_lt (a.num * b.den) (b.num * a.den)) [
  | inl below ↦ inl (record { less = below })
  | inr above ↦ inr (elim (cases_lt (b.num * a.den) (a.num * b.den)) [ inl more ↦ inl (record { less = more }) | inr same ↦ inr (omega arith) ])
]

-- what is not less than what exceeds an error exceeds it
pub Exceeds-not_less : (a b : Deviation) (error : ℕ) → IsFraction a → IsFraction b → ¬ (IsLess b a) → Exceeds a error → Exceeds b error
Exceeds-not_less a b error is is' more exceeds = record {
  over = cancelled (error * b.den) (100 * b.num) a.den (omega (arith, scaled (a.num * b.den) (b.num * a.den) 100 (at_least b a more), scaled_lt (error * a.den) (100 * a.num) b.den is'.some exceeds.over));
}

-- and so does what is more
pub Exceeds-less : (a b : Deviation) (error : ℕ) → IsFraction a → IsFraction b → IsLess a b → Exceeds a error → Exceeds b error
Exceeds-less a b error is is' less exceeds = Exceeds-not_less a b error is is' (IsLess-asymmetric a b less) exceeds

-- each deviation is a fraction
pub IsFraction-deviation_of : (a b p : Point) → IsFraction (deviation_of a b p)
unfolding deviation_of
IsFraction-deviation_of a b p =
    chosen (le_z (dot_of (from_to a b) (from_to a p)) (pos 0)) (le_z (dot_of (from_to a b) (from_to a b)) (dot_of (from_to a b) (from_to a p))) refl refl
  where
    positive : (reached length : ℤ) → le_z reached (pos 0) ≡ false → le_z length reached ≡ false → 0 < unsigned_abs length
    positive reached length e e' = omega (arith, ints)

    chosen : (behind beyond : Bool) → le_z (dot_of (from_to a b) (from_to a p)) (pos 0) ≡ behind → le_z (dot_of (from_to a b) (from_to a b)) (dot_of (from_to a b) (from_to a p)) ≡ beyond
        → IsFraction (cond behind (record { num = square_of (from_to a p); den = 1 }) (cond beyond (record { num = square_of (from_to b p); den = 1 })
        (record { num = unsigned_abs (cross_of (from_to a b) (from_to a p)) * unsigned_abs (cross_of (from_to a b) (from_to a p)); den = square_of (from_to a b) })))
    chosen true beyond e e' = record { some = lit< tt }
    chosen false true e e' = record { some = lit< tt }
    chosen false false e e' = record { some = positive (dot_of (from_to a b) (from_to a p)) (dot_of (from_to a b) (from_to a b)) e e' }
