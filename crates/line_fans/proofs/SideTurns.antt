-- Turns to either side, and the next portal seen from the corner.
use Rattle.std.proofs.Common.{◌≡◌, ℕ, zero, suc, ◌+◌, ◌*◌, ◌<◌, ℤ, pos, negsuc, ◌-ℤ◌, ◌*ℤ◌, ◌≤ℤ◌, ◌<ℤ◌, [], ◌∷◌, refl, sym, ap, subst, ◌∙◌, arith}
use Rattle.std.specs.Prelude.{unsigned_abs}
use Rattle.std.proofs.lemmas.Int.{ints}
use lib.IntN.{neg_ℤ}
use Rattle.nav_base.specs.declared.point.Point.{Point}
use Rattle.nav_base.specs.Point.{from_to, dot_of, cross_of, orient_of}
use Rattle.nav_base.specs.Deviation.{square_of}
use Rattle.nav_base.proofs.Polynomials.{at, sum, difference, product, opposite, equal}
use Rattle.nav_base.proofs.PointTerms.{place, coordinates, from_to_term, dot_term, cross_term, orient_term}
use Rattle.nav_base.proofs.LengthLaws.{square_of-product}
use Rattle.line_fans.proofs.Turns.{IsTurn, bent, straight, left_turn, turn_of}

-- ---- the mirror image

abbrev pub mirrored : Point → Point
mirrored v = record { x = neg_ℤ v.x; z = v.z }

cross_mirrored : (u v : Point) → cross_of (mirrored u) (mirrored v) ≡ cross_of v u
unfolding cross_of
cross_mirrored u v = equal (coordinates (u ∷ v ∷ [])) (difference (product (opposite (at 0)) (at 3)) (product (at 1) (opposite (at 2)))) (cross_term (place 1) (place 0)) refl

square_mirrored : (u : Point) → square_of (mirrored u) ≡ square_of u
unfolding dot_of
square_mirrored u = ap unsigned_abs (equal (coordinates (u ∷ [])) (sum (product (opposite (at 0)) (opposite (at 0))) (product (at 1) (at 1))) (dot_term (place 0) (place 0)) refl)

back : (k y z e a b : ℤ) → k *ℤ neg_ℤ e ≡ y *ℤ neg_ℤ a -ℤ z *ℤ neg_ℤ b → k *ℤ e ≡ y *ℤ a -ℤ z *ℤ b
back k y z e a b same =
    equal (k ∷ e ∷ []) (product (at 0) (at 1)) (opposite (product (at 0) (opposite (at 1)))) refl
    ∙ ap neg_ℤ same
    ∙ equal (y ∷ z ∷ a ∷ b ∷ []) (opposite (difference (product (at 0) (opposite (at 2))) (product (at 1) (opposite (at 3))))) (difference (product (at 0) (at 2)) (product (at 1) (at 3))) refl

back_one : (z y b a : ℤ) → z *ℤ neg_ℤ b ≡ y *ℤ neg_ℤ a → z *ℤ b ≡ y *ℤ a
back_one z y b a same =
    equal (z ∷ b ∷ []) (product (at 0) (at 1)) (opposite (product (at 0) (opposite (at 1)))) refl ∙ ap neg_ℤ same ∙ equal (y ∷ a ∷ []) (opposite (product (at 0) (opposite (at 1)))) (product (at 0) (at 1)) refl

turn_back : (a b e : Point) → IsTurn (mirrored a) (mirrored b) (mirrored e) → IsTurn a b e
turn_back a b e (bent pivot) = bent (record {
  k = pivot.k;
  y = pivot.y;
  z = pivot.z;
  some = pivot.some;
  x_parts = back (pos pivot.k) (pos pivot.y) (pos pivot.z) e.x a.x b.x pivot.x_parts;
  z_parts = pivot.z_parts;
})
turn_back a b e (straight same) = straight (record {
  y = same.y;
  z = same.z;
  some = same.some;
  some' = same.some';
  x_parts = back_one (pos same.z) (pos same.y) b.x a.x same.x_parts;
  z_parts = same.z_parts;
})

at_least : (m n : ℤ) → m ≡ n → pos 0 ≤ℤ n → pos 0 ≤ℤ m
at_least m n e h = omega (arith, ints)

more : (m n : ℤ) → m ≡ n → pos 0 <ℤ n → pos 0 <ℤ m
more m n e h = omega (arith, ints)

-- ---- a turn to the right

pub record IsRightTurn (a b e l r : Point) : Type 0 where
  pub other_left : pos 0 <ℤ cross_of a e
  pub right_ahead : pos 0 ≤ℤ cross_of r e
  pub left_ahead : pos 0 ≤ℤ cross_of l e
  pub left_right : pos 0 ≤ℤ cross_of l a
  pub wide : pos 0 <ℤ cross_of r l
  pub right_of_left : pos 0 ≤ℤ cross_of b l
  pub left_of_right : pos 0 ≤ℤ cross_of r b

pub right_turn : (a b e l r : Point) → IsRightTurn a b e l r → 0 < square_of b → IsTurn a b e
right_turn a b e l r is some =
    turn_back a b e (left_turn (mirrored a) (mirrored b) (mirrored e) (mirrored r) (mirrored l) (record {
      other_right = more (cross_of (mirrored e) (mirrored a)) (cross_of a e) (cross_mirrored e a) is.other_left;
      right_ahead = at_least (cross_of (mirrored e) (mirrored l)) (cross_of l e) (cross_mirrored e l) is.left_ahead;
      left_ahead = at_least (cross_of (mirrored e) (mirrored r)) (cross_of r e) (cross_mirrored e r) is.right_ahead;
      right_left = at_least (cross_of (mirrored a) (mirrored l)) (cross_of l a) (cross_mirrored a l) is.left_right;
      wide = more (cross_of (mirrored l) (mirrored r)) (cross_of r l) (cross_mirrored l r) is.wide;
      right_of_left = at_least (cross_of (mirrored b) (mirrored r)) (cross_of r b) (cross_mirrored b r) is.left_of_right;
      left_of_right = at_least (cross_of (mirrored l) (mirrored b)) (cross_of b l) (cross_mirrored l b) is.right_of_left;
    }) (subst (λ (n : ℕ). 0 < n) (sym (square_mirrored b)) some))

pub right_turn_of : (a b e : Point) → pos 0 <ℤ cross_of a e → pos 0 ≤ℤ cross_of b a → pos 0 ≤ℤ cross_of b e → 0 < square_of b → IsTurn a b e
right_turn_of a b e left right ahead some =
    turn_back a b e (turn_of (mirrored a) (mirrored b) (mirrored e) (more (cross_of (mirrored e) (mirrored a)) (cross_of a e) (cross_mirrored e a) left)
    (at_least (cross_of (mirrored a) (mirrored b)) (cross_of b a) (cross_mirrored a b) right) (at_least (cross_of (mirrored e) (mirrored b)) (cross_of b e) (cross_mirrored e b) ahead)
    (subst (λ (n : ℕ). 0 < n) (sym (square_mirrored b)) some))

-- ---- vectors of some length

factors : (s t k : ℕ) → s * t ≡ k → 0 < k → (0 < s) × (0 < t)
factors zero t k same h = absurd (omega (arith, h))
factors (suc s) zero k same h = absurd (omega (arith, h))
factors (suc s) (suc t) k same h = (omega arith, omega arith)

-- vectors with a cross have a length
pub some_length : (u v : Point) → pos 0 <ℤ cross_of u v → (0 < square_of u) × (0 < square_of v)
some_length u v h = sizes (square_of u) (square_of v) (cross_of u v) (square_of-product u v) h
  where
    sizes : (s t : ℕ) (n : ℤ) → s * t ≡ unsigned_abs (dot_of u v) * unsigned_abs (dot_of u v) + unsigned_abs n * unsigned_abs n → pos 0 <ℤ n → (0 < s) × (0 < t)
    sizes s t (pos (suc n)) same h = factors s t (unsigned_abs (dot_of u v) * unsigned_abs (dot_of u v) + suc n * suc n) same (omega arith)
    sizes s t (pos zero) same h = absurd (omega (arith, ints, h))
    sizes s t (negsuc n) same h = absurd (omega (arith, ints, h))

-- ---- seen from a corner v, for one who comes from o

-- the crosses at the corner
pub from_before : (o v x : Point) → cross_of (from_to o v) (from_to v x) ≡ orient_of o v x
unfolding cross_of orient_of
from_before o v x = equal (coordinates (o ∷ v ∷ x ∷ [])) (cross_term (from_to_term (place 0) (place 1)) (from_to_term (place 1) (place 2))) (orient_term (place 0) (place 1) (place 2)) refl

pub to_before : (o v x : Point) → cross_of (from_to v x) (from_to o v) ≡ orient_of o x v
unfolding cross_of orient_of
to_before o v x = equal (coordinates (o ∷ v ∷ x ∷ [])) (cross_term (from_to_term (place 1) (place 2)) (from_to_term (place 0) (place 1))) (orient_term (place 0) (place 2) (place 1)) refl

pub at_corner : (v x y : Point) → cross_of (from_to v x) (from_to v y) ≡ orient_of v x y
unfolding orient_of
at_corner v x y = refl
