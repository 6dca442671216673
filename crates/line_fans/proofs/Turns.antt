-- Turns round an end of a portal, over vectors: when a line that comes along one and goes on along another is held.
use Rattle.std.proofs.Common.{◌≡◌, ℕ, ◌*◌, ◌<◌, ◌⊎◌, ℤ, pos, negsuc, ◌+ℤ◌, ◌-ℤ◌, ◌*ℤ◌, ◌≤ℤ◌, ◌<ℤ◌, List, [], ◌∷◌, refl, sym, ap, subst, ◌∙◌, inl, inr, arith}
use Rattle.std.specs.Prelude.{unsigned_abs}
use Rattle.std.proofs.lemmas.Int.{ints}
use Rattle.std.proofs.lemmas.Nat.{mul-le}
use lib.IntN.{*ℤ-zero}
use Rattle.nav_base.specs.declared.point.Point.{Point}
use Rattle.nav_base.specs.Point.{from_to, dot_of, cross_of}
use Rattle.nav_base.specs.Deviation.{square_of}
use Rattle.nav_base.proofs.Polynomials.{at, sum, difference, product, equal}
use Rattle.nav_base.proofs.PointTerms.{place, coordinates, dot_term, cross_term}
use Rattle.nav_base.proofs.LengthLaws.{dot_of-itself}
use Rattle.nav_base.proofs.Signs.{factor-zero, factor-not_negative, product-not_negative, product-not_positive, product-positive}
use Rattle.mesh_types.specs.declared.links.Portal.{Portal}
use Rattle.funnel_path.proofs.SideRules.{weighted-not_negative, not_negative-signs, zero-product}
use Rattle.line_fans.proofs.Scales.{AreAlong, absolute-same}
use Rattle.line_fans.proofs.Pivots.{IsPivot}
use Rattle.line_fans.proofs.HeldLines.{IsHeld, arrives, passes, goes, turns}

-- ---- vectors of one direction

pub record IsSameWay (w w' : Point) : Type 0 where
  pub y : ℕ
  pub z : ℕ
  pub some : 0 < y
  pub some' : 0 < z
  pub x_parts : pos z *ℤ w'.x ≡ pos y *ℤ w.x
  pub z_parts : pos z *ℤ w'.z ≡ pos y *ℤ w.z

positive : (n : ℕ) → 0 < n → pos 0 <ℤ pos n
positive n some = omega (arith, ints)

pub same_cross : (w w' u : Point) (same : IsSameWay w w') → pos same.y *ℤ cross_of w u ≡ pos same.z *ℤ cross_of w' u
unfolding cross_of
same_cross w w' u same =
    equal (w.x ∷ w.z ∷ u.x ∷ u.z ∷ pos same.y ∷ []) (product (at 4) (cross_term (place 0) (place 1))) (difference (product (product (at 4) (at 0)) (at 3)) (product (product (at 4) (at 1)) (at 2))) refl
    ∙ (λ i. sym same.x_parts i *ℤ u.z -ℤ sym same.z_parts i *ℤ u.x)
    ∙ equal (w'.x ∷ w'.z ∷ u.x ∷ u.z ∷ pos same.z ∷ []) (difference (product (product (at 4) (at 0)) (at 3)) (product (product (at 4) (at 1)) (at 2))) (product (at 4) (cross_term (place 0) (place 1))) refl

same_dot : (w w' u : Point) (same : IsSameWay w w') → pos same.y *ℤ dot_of w u ≡ pos same.z *ℤ dot_of w' u
unfolding dot_of
same_dot w w' u same =
    equal (w.x ∷ w.z ∷ u.x ∷ u.z ∷ pos same.y ∷ []) (product (at 4) (dot_term (place 0) (place 1))) (sum (product (product (at 4) (at 0)) (at 2)) (product (product (at 4) (at 1)) (at 3))) refl
    ∙ (λ i. sym same.x_parts i *ℤ u.x +ℤ sym same.z_parts i *ℤ u.z)
    ∙ equal (w'.x ∷ w'.z ∷ u.x ∷ u.z ∷ pos same.z ∷ []) (sum (product (product (at 4) (at 0)) (at 2)) (product (product (at 4) (at 1)) (at 3))) (product (at 4) (dot_term (place 0) (place 1))) refl

not_negative : (n : ℕ) → pos 0 ≤ℤ pos n
not_negative n = omega (arith, ints)

same_along : (w w' u : Point) → IsSameWay w w' → AreAlong w' u → AreAlong w u
same_along w w' u same along = record {
  across = factor-zero (pos same.y) (cross_of w u) (positive same.y same.some) (same_cross w w' u same ∙ ap (λ (n : ℤ). pos same.z *ℤ n) along.across ∙ *ℤ-zero (pos same.z));
  onward = factor-not_negative (pos same.y) (dot_of w u) (positive same.y same.some) (subst (λ (n : ℤ). pos 0 ≤ℤ n) (sym (same_dot w w' u same)) (product-not_negative (pos same.z) (dot_of w' u) (not_negative same.z) along.onward));
}

-- a part of a pivot, some times
times_part : (k y z s t : ℕ) (e w w' w'' : ℤ) → pos t *ℤ w' ≡ pos s *ℤ w → pos k *ℤ e ≡ pos y *ℤ w' -ℤ pos z *ℤ w'' → pos (k * t) *ℤ e ≡ pos (y * s) *ℤ w -ℤ pos (z * t) *ℤ w''
times_part k y z s t e w w' w'' same part =
    equal (pos k ∷ pos t ∷ e ∷ []) (product (product (at 0) (at 1)) (at 2)) (product (at 1) (product (at 0) (at 2))) refl
    ∙ (λ i. pos t *ℤ part i)
    ∙ equal (pos t ∷ pos y ∷ pos z ∷ w' ∷ w'' ∷ []) (product (at 0) (difference (product (at 1) (at 3)) (product (at 2) (at 4)))) (difference (product (at 1) (product (at 0) (at 3))) (product (product (at 2) (at 0)) (at 4))) refl
    ∙ (λ i. pos y *ℤ same i -ℤ (pos z *ℤ pos t) *ℤ w'')
    ∙ equal (pos y ∷ pos s ∷ w ∷ pos z ∷ pos t ∷ w'' ∷ []) (difference (product (at 0) (product (at 1) (at 2))) (product (product (at 3) (at 4)) (at 5))) (difference (product (product (at 0) (at 1)) (at 2)) (product (product (at 3) (at 4)) (at 5))) refl

same_pivot : (w w' w'' e : Point) → IsSameWay w w' → IsPivot w' w'' e → IsPivot w w'' e
same_pivot w w' w'' e same pivot = record {
  k = pivot.k * same.z;
  y = pivot.y * same.y;
  z = pivot.z * same.z;
  some = mul-le 1 1 pivot.k same.z pivot.some same.some';
  x_parts = times_part pivot.k pivot.y pivot.z same.y same.z e.x w.x w'.x w''.x same.x_parts pivot.x_parts;
  z_parts = times_part pivot.k pivot.y pivot.z same.y same.z e.z w.z w'.z w''.z same.z_parts pivot.z_parts;
}

-- a line that is held along one vector is held along each of the same direction
pub held_same : (goal w : Point) {a w' : Point} {portals : List Portal} {parts : ℕ} → IsSameWay w w' → IsHeld goal a w' portals parts → IsHeld goal a w portals parts
held_same goal w same (arrives a w' parts along within) = arrives a w parts (same_along w w' (from_to a goal) same along) within
held_same goal w same (passes a w' portal portals parts held) = passes a w portal portals parts (held_same goal w same held)
held_same goal w same (goes a w' c portals parts more along within held) = goes a w c portals parts more (same_along w w' (from_to a c) same along) within (held_same goal w same held)
held_same goal w same (turns a w' w'' other portal portals parts ends pivot some apart held) = turns a w w'' other portal portals parts ends (same_pivot w w' w'' (from_to a other) same pivot) some apart held

-- ---- the turn at a corner

-- a line turns from a to b, round an end of a portal whose other end lies in direction e, or goes straight on
pub data IsTurn (a b e : Point) : Type 0 where
  bent : IsPivot a b e → IsTurn a b e
  straight : IsSameWay a b → IsTurn a b e

pub record IsLeftTurn (a b e l r : Point) : Type 0 where
  pub other_right : pos 0 <ℤ cross_of e a
  pub right_ahead : pos 0 ≤ℤ cross_of e r
  pub left_ahead : pos 0 ≤ℤ cross_of e l
  pub right_left : pos 0 ≤ℤ cross_of a r
  pub wide : pos 0 <ℤ cross_of r l
  pub right_of_left : pos 0 ≤ℤ cross_of b l
  pub left_of_right : pos 0 ≤ℤ cross_of r b

crosses : (u r l b : Point) → cross_of r l *ℤ cross_of u b ≡ cross_of u r *ℤ cross_of b l +ℤ cross_of u l *ℤ cross_of r b
unfolding cross_of
crosses u r l b =
    equal (coordinates (u ∷ r ∷ l ∷ b ∷ [])) (product (cross_term (place 1) (place 2)) (cross_term (place 0) (place 3)))
    (sum (product (cross_term (place 0) (place 1)) (cross_term (place 3) (place 2))) (product (cross_term (place 0) (place 2)) (cross_term (place 1) (place 3)))) refl

crosses_left : (a e l r : Point) → cross_of e r *ℤ cross_of a l ≡ cross_of e a *ℤ cross_of r l +ℤ cross_of e l *ℤ cross_of a r
unfolding cross_of
crosses_left a e l r =
    equal (coordinates (a ∷ e ∷ l ∷ r ∷ [])) (product (cross_term (place 1) (place 3)) (cross_term (place 0) (place 2)))
    (sum (product (cross_term (place 1) (place 0)) (cross_term (place 3) (place 2))) (product (cross_term (place 1) (place 2)) (cross_term (place 0) (place 3)))) refl

part_x : (a b e : Point) → cross_of a b *ℤ e.x ≡ cross_of e b *ℤ a.x -ℤ cross_of e a *ℤ b.x
unfolding cross_of
part_x a b e =
    equal (coordinates (a ∷ b ∷ e ∷ [])) (product (cross_term (place 0) (place 1)) (at 4)) (difference (product (cross_term (place 2) (place 1)) (at 0)) (product (cross_term (place 2) (place 0)) (at 2))) refl

part_z : (a b e : Point) → cross_of a b *ℤ e.z ≡ cross_of e b *ℤ a.z -ℤ cross_of e a *ℤ b.z
unfolding cross_of
part_z a b e =
    equal (coordinates (a ∷ b ∷ e ∷ [])) (product (cross_term (place 0) (place 1)) (at 5)) (difference (product (cross_term (place 2) (place 1)) (at 1)) (product (cross_term (place 2) (place 0)) (at 3))) refl

-- a sum of a positive product and one that is not negative, as a product
left_positive : (f x d w u v : ℤ) → f *ℤ x ≡ d *ℤ w +ℤ u *ℤ v → pos 0 ≤ℤ f → pos 0 <ℤ d → pos 0 <ℤ w → pos 0 ≤ℤ u → pos 0 ≤ℤ v → pos 0 ≤ℤ x
left_positive f (pos n) d w u v same h p q r s = omega (arith, ints)
left_positive f (negsuc n) d w u v same h p q r s =
    absurd (apart (f *ℤ negsuc n) (d *ℤ w) (u *ℤ v) same (product-not_positive f (negsuc n) h (omega (arith, ints))) (product-positive d w p q) (product-not_negative u v r s))
  where
    apart : (k m n : ℤ) → k ≡ m +ℤ n → k ≤ℤ pos 0 → pos 0 <ℤ m → pos 0 ≤ℤ n → ⊥
    apart k m n e h p q = omega (arith, ints)

dot_part : (a b e : Point) → cross_of e a *ℤ dot_of b b ≡ cross_of e b *ℤ dot_of a b -ℤ cross_of a b *ℤ dot_of e b
unfolding cross_of dot_of
dot_part a b e =
    equal (coordinates (a ∷ b ∷ e ∷ [])) (product (cross_term (place 2) (place 0)) (dot_term (place 1) (place 1)))
    (difference (product (cross_term (place 2) (place 1)) (dot_term (place 0) (place 1))) (product (cross_term (place 0) (place 1)) (dot_term (place 2) (place 1)))) refl

some-absolute : (n : ℤ) → pos 0 <ℤ n → 0 < unsigned_abs n
some-absolute (pos n) h = omega (arith, ints)
some-absolute (negsuc n) h = omega (arith, ints)

weak : (n : ℤ) → pos 0 <ℤ n → pos 0 ≤ℤ n
weak n h = omega (arith, ints)

pub turn_of : (a b e : Point) → pos 0 <ℤ cross_of e a → pos 0 ≤ℤ cross_of a b → pos 0 ≤ℤ cross_of e b → 0 < square_of b → IsTurn a b e
turn_of a b e right left ahead some = by (not_negative-signs (cross_of a b) left)
  where
    is_z : cross_of e a ≡ pos (unsigned_abs (cross_of e a))
    is_z = absolute-same (cross_of e a) (weak (cross_of e a) right)

    is_y : cross_of e b ≡ pos (unsigned_abs (cross_of e b))
    is_y = absolute-same (cross_of e b) ahead

    onward : (x y z : ℤ) → x ≡ y -ℤ z → x ≡ pos 0 → z ≡ y
    onward x y z e none = omega (arith, ints)

    nothing : (x y z : ℤ) → x ≡ y -ℤ z → y ≡ pos 0 → z ≡ pos 0 → x ≡ pos 0
    nothing x y z e p q = omega (arith, ints)

    some-square : (n : ℤ) (m : ℕ) → n ≡ pos m → 0 < m → n ≡ pos 0 → ⊥
    some-square n m e h none = omega (arith, ints)

    collinear : cross_of a b ≡ pos 0 → ((cross_of e b ≡ pos 0) ⊎ (pos 0 <ℤ cross_of e b)) → IsTurn a b e
    collinear none (inl none') =
        absurd (some-square (dot_of b b) (square_of b) (dot_of-itself b) some
        (factor-zero (cross_of e a) (dot_of b b) right
        (nothing (cross_of e a *ℤ dot_of b b) (cross_of e b *ℤ dot_of a b) (cross_of a b *ℤ dot_of e b) (dot_part a b e) (zero-product (cross_of e b) (dot_of a b) none') (zero-product (cross_of a b) (dot_of e b) none))))
    collinear none (inr more) = straight (record {
      y = unsigned_abs (cross_of e b);
      z = unsigned_abs (cross_of e a);
      some = some-absolute (cross_of e b) more;
      some' = some-absolute (cross_of e a) right;
      x_parts = (λ i. sym is_z i *ℤ b.x) ∙ onward (cross_of a b *ℤ e.x) (cross_of e b *ℤ a.x) (cross_of e a *ℤ b.x) (part_x a b e) (zero-product (cross_of a b) e.x none) ∙ (λ i. is_y i *ℤ a.x);
      z_parts = (λ i. sym is_z i *ℤ b.z) ∙ onward (cross_of a b *ℤ e.z) (cross_of e b *ℤ a.z) (cross_of e a *ℤ b.z) (part_z a b e) (zero-product (cross_of a b) e.z none) ∙ (λ i. is_y i *ℤ a.z);
    })

    by : ((cross_of a b ≡ pos 0) ⊎ (pos 0 <ℤ cross_of a b)) → IsTurn a b e
    by (inl none) = collinear none (not_negative-signs (cross_of e b) ahead)
    by (inr more) = bent (record {
      k = unsigned_abs (cross_of a b);
      y = unsigned_abs (cross_of e b);
      z = unsigned_abs (cross_of e a);
      some = some-absolute (cross_of a b) more;
      x_parts = (λ i. sym (absolute-same (cross_of a b) left) i *ℤ e.x) ∙ part_x a b e ∙ (λ i. is_y i *ℤ a.x -ℤ is_z i *ℤ b.x);
      z_parts = (λ i. sym (absolute-same (cross_of a b) left) i *ℤ e.z) ∙ part_z a b e ∙ (λ i. is_y i *ℤ a.z -ℤ is_z i *ℤ b.z);
    })

pub left_turn : (a b e l r : Point) → IsLeftTurn a b e l r → 0 < square_of b → IsTurn a b e
left_turn a b e l r is some =
    turn_of a b e is.other_right
    (weighted-not_negative (cross_of r l) (cross_of a b) (cross_of a r) (cross_of b l) (cross_of a l) (cross_of r b) (crosses a r l b) is.wide is.right_left is.right_of_left
    (left_positive (cross_of e r) (cross_of a l) (cross_of e a) (cross_of r l) (cross_of e l) (cross_of a r) (crosses_left a e l r) is.right_ahead is.other_right is.wide is.left_ahead is.right_left) is.left_of_right)
    (weighted-not_negative (cross_of r l) (cross_of e b) (cross_of e r) (cross_of b l) (cross_of e l) (cross_of r b) (crosses e r l b) is.wide is.right_ahead is.right_of_left is.left_ahead is.left_of_right)
    some
