-- Turns along a way: what a turn at a line comes to at a near point, and the steps that a turn leaves.
use Rattle.std.proofs.Common.{◌≡◌, ℕ, zero, suc, ◌+◌, ◌*◌, ◌/◌, ◌%◌, ◌-◌, ◌≤◌, ◌<◌, ℤ, pos, negsuc, ◌+ℤ◌, ◌-ℤ◌, ◌*ℤ◌, ◌≤ℤ◌, ◌<ℤ◌, [], ◌∷◌, ◌++◌, ap, ◌∙◌, refl, inl, inr, arith}
use Rattle.std.specs.Int.{div_ceil}
use Rattle.std.specs.Int.RustNames.{unsigned_abs}
use Rattle.std.proofs.lemmas.Bool.{cases_lt}
use Rattle.std.proofs.lemmas.Int.{ints}
use Rattle.std.proofs.lemmas.Nat.{mul-le, div-add-mod'}
use Rattle.nav_base.specs.declared.point.Point.{Point}
use Rattle.nav_base.specs.Point.{from_to, dot_of, cross_of, orient_of}
use Rattle.nav_base.proofs.Polynomials.{at, number, sum, difference, product, equal}
use Rattle.nav_base.proofs.PointTerms.{place, coordinates, from_to_term, cross_term, orient_term}
use Rattle.nav_base.proofs.Signs.{product-not_negative}
use Rattle.surface_move.specs.declared.nearby.StraightWay.{StraightWay}
use Rattle.surface_move.specs.Moves.{IsNear}
use Rattle.surface_move.specs.Ways.{IsOffset, IsWay}
use Rattle.surface_move.proofs.NearPoints.{offset_of, near_offset}
use Rattle.surface_move.proofs.Numbers.{product_small}

-- ---- at a near point

-- n times the turn at q is that at the place reached, times n, and the cross of the line and the offset: an identity
turn_at : (u v from to q : Point) (n g : ℤ)
    → n *ℤ orient_of u v q ≡ (n *ℤ orient_of u v from +ℤ g *ℤ (orient_of u v to -ℤ orient_of u v from))
    +ℤ cross_of (from_to u v) (record {
      x = n *ℤ q.x -ℤ (n *ℤ from.x +ℤ g *ℤ (to.x -ℤ from.x));
      z = n *ℤ q.z -ℤ (n *ℤ from.z +ℤ g *ℤ (to.z -ℤ from.z));
    })
unfolding cross_of dot_of orient_of
turn_at u v from to q n g =
    equal (coordinates (u ∷ v ∷ from ∷ to ∷ q ∷ []) ++ n ∷ g ∷ [])
    (product (at 10) (orient_term (place 0) (place 1) (place 4)))
    (sum (sum (product (at 10) (orient_term (place 0) (place 1) (place 2)))
    (product (at 11) (difference (orient_term (place 0) (place 1) (place 3)) (orient_term (place 0) (place 1) (place 2)))))
    (cross_term (from_to_term (place 0) (place 1)) (record {
      x = difference (product (at 10) (place 4).x) (sum (product (at 10) (place 2).x) (product (at 11) (difference (place 3).x (place 2).x)));
      z = difference (product (at 10) (place 4).z) (sum (product (at 10) (place 2).z) (product (at 11) (difference (place 3).z (place 2).z)));
    }))) refl

-- where q does not lie to the right, the turn at the place reached is not below 0, with what rounding can add
pub not_right : (u v : Point) (way : StraightWay) (g : ℕ) (q : Point) (start each rounding : ℤ) → IsWay way
    → ((off : Point) → IsOffset way off → cross_of (from_to u v) off ≤ℤ rounding)
    → start ≡ pos way.steps *ℤ orient_of u v way.from +ℤ rounding → each ≡ orient_of u v way.to -ℤ orient_of u v way.from
    → IsNear way.from way.to g q → pos 0 ≤ℤ orient_of u v q → pos 0 ≤ℤ (start +ℤ pos g *ℤ each)
not_right u v way g q start each rounding is most start_is each_is near left =
    level (pos way.steps *ℤ orient_of u v q) (pos g *ℤ (orient_of u v way.to -ℤ orient_of u v way.from)) (pos way.steps *ℤ orient_of u v way.from)
    (cross_of (from_to u v) (offset_of way g q)) rounding start (pos g *ℤ each)
    (turn_at u v way.from way.to q (pos way.steps) (pos g))
    (product-not_negative (pos way.steps) (orient_of u v q) (some way.steps) left)
    (most (offset_of way g q) (near_offset way g q is near)) start_is (ap (λ (d : ℤ). pos g *ℤ d) each_is)
  where
    some : (n : ℕ) → pos 0 ≤ℤ pos n
    some n = omega (arith, ints)

    level : (at_q gone from cross rounding start go : ℤ) → at_q ≡ (from +ℤ gone) +ℤ cross → pos 0 ≤ℤ at_q → cross ≤ℤ rounding
        → start ≡ from +ℤ rounding → go ≡ gone → pos 0 ≤ℤ (start +ℤ go)
    level at_q gone from cross rounding start go e h k e' e'' = omega (arith, ints)

-- ---- what rounding can add

-- along one axis an offset is nothing, along the other less than all steps
pub across_wide : (u v : Point) (way : StraightWay) (off : Point) → IsOffset way off → unsigned_abs (way.to.x -ℤ way.from.x) ≡ way.steps
    → cross_of (from_to u v) off ≤ℤ pos (unsigned_abs (v.x -ℤ u.x) * (way.steps - 1))
unfolding cross_of
across_wide u v way off is wide =
    bounded ((v.x -ℤ u.x) *ℤ off.z) ((v.z -ℤ u.z) *ℤ off.x) (unsigned_abs (v.x -ℤ u.x) * (way.steps - 1))
    (product_small (v.x -ℤ u.x) off.z (unsigned_abs (v.x -ℤ u.x)) (way.steps - 1) (omega arith) (omega (arith, is.along)))
    (ap (λ (m : ℤ). (v.z -ℤ u.z) *ℤ m) (is.wide wide) ∙ nothing (v.z -ℤ u.z))
  where
    nothing : (n : ℤ) → n *ℤ pos 0 ≡ pos 0
    nothing n = equal (n ∷ []) (product (at 0) (number (pos 0))) (number (pos 0)) refl

    bounded : (a b : ℤ) (k : ℕ) → unsigned_abs a ≤ k → b ≡ pos 0 → (a -ℤ b) ≤ℤ pos k
    bounded a b k h e = omega (arith, ints)

pub across_high : (u v : Point) (way : StraightWay) (off : Point) → IsOffset way off → unsigned_abs (way.to.z -ℤ way.from.z) ≡ way.steps
    → cross_of (from_to u v) off ≤ℤ pos (unsigned_abs (v.z -ℤ u.z) * (way.steps - 1))
unfolding cross_of
across_high u v way off is high =
    bounded ((v.x -ℤ u.x) *ℤ off.z) ((v.z -ℤ u.z) *ℤ off.x) (unsigned_abs (v.z -ℤ u.z) * (way.steps - 1))
    (product_small (v.z -ℤ u.z) off.x (unsigned_abs (v.z -ℤ u.z)) (way.steps - 1) (omega arith) (omega (arith, is.across)))
    (ap (λ (m : ℤ). (v.x -ℤ u.x) *ℤ m) (is.high high) ∙ nothing (v.x -ℤ u.x))
  where
    nothing : (n : ℤ) → n *ℤ pos 0 ≡ pos 0
    nothing n = equal (n ∷ []) (product (at 0) (number (pos 0))) (number (pos 0)) refl

    bounded : (a b : ℤ) (k : ℕ) → unsigned_abs b ≤ k → a ≡ pos 0 → (a -ℤ b) ≤ℤ pos k
    bounded a b k h e = omega (arith, ints)

-- ---- the steps that a turn leaves

-- a start that is not below 0 and is lessened by each step lasts for so many steps
pub lasts : (start each : ℤ) (g : ℕ) → pos 0 ≤ℤ start → each <ℤ pos 0 → pos 0 ≤ℤ (start +ℤ pos g *ℤ each) → g ≤ unsigned_abs start / unsigned_abs each
lasts (pos s) (pos e) g high low h = absurd (omega (arith, ints))
lasts (negsuc s) each g high low h = absurd (omega (arith, ints))
lasts (pos s) (negsuc e) g high low h =
    elim (cases_lt (s / suc e) g) [
      | inl more ↦ absurd (omega (arith, div-add-mod' s (suc e), mul-le (s / suc e + 1) (suc e) g (suc e) (omega (arith, more)) (omega arith), total))
      | inr less ↦ less
    ]
  where
    total : g * suc e ≤ s
    total = omega (arith, ints)

-- a start below 0 that is raised by each step takes so many steps
pub takes : (start each : ℤ) (g : ℕ) → start <ℤ pos 0 → pos 0 <ℤ each → pos 0 ≤ℤ (start +ℤ pos g *ℤ each) → div_ceil (unsigned_abs start) (unsigned_abs each) ≤ g
takes (pos s) each g low high h = absurd (omega (arith, ints))
takes (negsuc s) (negsuc e) g low high h = absurd (omega (arith, ints))
takes (negsuc s) (pos e) g low high h = least (suc s) e g some total
  where
    some : 0 < e
    some = omega (arith, ints)

    total : suc s ≤ g * e
    total = omega (arith, ints)

    ceiling_above : (x s : ℕ) → 0 < s → div_ceil x s * s < x + s
    ceiling_above x s some' = elim (cases_lt 0 (x % s)) [
      | inl more ↦ let e : div_ceil x s ≡ x / s + 1 = omega arith in omega (arith, div-add-mod' x s, mul-le (div_ceil x s) s (x / s + 1) s (omega (arith, e)) (omega arith))
      | inr none ↦ let e : div_ceil x s ≡ x / s = omega arith in omega (arith, div-add-mod' x s, mul-le (div_ceil x s) s (x / s) s (omega (arith, e)) (omega arith))
    ]

    least : (x s k : ℕ) → 0 < s → x ≤ k * s → div_ceil x s ≤ k
    least x s k some' h =
        elim (cases_lt k (div_ceil x s)) [
          | inl more ↦ absurd (omega (arith, ceiling_above x s some', mul-le (k + 1) s (div_ceil x s) s (omega (arith, more)) (omega arith), h))
          | inr less ↦ less
        ]

-- a start below 0 that is not raised is never 0
pub never : (start each : ℤ) (g : ℕ) → start <ℤ pos 0 → each ≤ℤ pos 0 → pos 0 ≤ℤ (start +ℤ pos g *ℤ each) → ⊥
never start (pos zero) g low none h = omega (arith, ints)
never start (pos (suc e)) g low none h = omega (arith, ints)
never start (negsuc e) g low none h = omega (arith, ints)
