-- The next portal, seen from an end of the one before it: where that end lies on the next portal's line.
use Rattle.std.proofs.Common.{◌≡◌, ◌≢◌, ℕ, zero, suc, ◌+◌, ◌*◌, ◌⊎◌, ℤ, pos, ◌≤ℤ◌, ◌<ℤ◌, [], ◌∷◌, refl, sym, ap, subst, ◌∙◌, inl, inr, arith}
use Rattle.std.specs.Prelude.{unsigned_abs}
use lib.IntN.{neg_ℤ}
use Rattle.nav_base.specs.declared.point.Point.{Point}
use Rattle.nav_base.specs.Point.{from_to, dot_of, cross_of, orient_of}
use Rattle.nav_base.specs.Deviation.{square_of}
use Rattle.nav_base.proofs.Polynomials.{opposite, equal}
use Rattle.nav_base.proofs.PointTerms.{place, coordinates, from_to_term, dot_term, cross_term, orient_term}
use Rattle.nav_base.proofs.LengthLaws.{dot_of-itself, square_of-product}
use Rattle.nav_base.proofs.OrientLaws.{orient_of-end, orient_of-start, orient_of-rotated, dot_of-exchanged}
use Rattle.mesh_types.specs.declared.links.Portal.{Portal}
use Rattle.funnel_path.specs.PassedOver.{IsInside, IsInLine, LookOpposite}
use Rattle.funnel_path.proofs.SideRules.{signs, zero-both, opposite-negative}
use Rattle.funnel_path.proofs.PointLaws.{length-positive, length-zero, turned-zero}
use Rattle.funnel_path.proofs.LineLaws.{between-ahead, inside_parts}
use Rattle.funnel_path.proofs.FoldLaws.{folds_at_left, folds_at_right}
use Rattle.line_fans.specs.Fans.{StandsBefore}

-- where a point on a portal's line lies
pub data LiesThere (v : Point) (portal : Portal) : Type 0 where
  inside : IsInside v portal → LiesThere v portal
  at_left : v ≡ portal.left → LiesThere v portal
  at_right : v ≡ portal.right → LiesThere v portal
  beside : pos 0 <ℤ dot_of (from_to v portal.left) (from_to v portal.right) → LiesThere v portal

pub on_portal_line : (v : Point) (portal : Portal) → cross_of (from_to v portal.left) (from_to v portal.right) ≡ neg_ℤ (orient_of portal.right portal.left v)
unfolding cross_of orient_of
on_portal_line v portal =
    equal (coordinates (v ∷ portal.left ∷ portal.right ∷ [])) (cross_term (from_to_term (place 0) (place 1)) (from_to_term (place 0) (place 2))) (opposite (orient_term (place 2) (place 1) (place 0))) refl

pub lies_there : (v : Point) (portal : Portal) → orient_of portal.right portal.left v ≡ pos 0 → LiesThere v portal
lies_there v portal on = by (signs (dot_of (from_to v portal.left) (from_to v portal.right)))
  where
    sizes : (s t : ℕ) (d c : ℤ) → s * t ≡ unsigned_abs d * unsigned_abs d + unsigned_abs c * unsigned_abs c → d ≡ pos 0 → c ≡ pos 0 → (s ≡ 0) ⊎ (t ≡ 0)
    sizes zero t d c same p q = inl refl
    sizes (suc s) zero d c same p q = inr refl
    sizes (suc s) (suc t) d c same p q = absurd (none (same ∙ (λ i. unsigned_abs (p i) * unsigned_abs (p i) + unsigned_abs (q i) * unsigned_abs (q i))))
      where
        none : suc s * suc t ≡ 0 * 0 + 0 * 0 → ⊥
        none e = omega (arith, e)

    ends : (square_of (from_to v portal.left) ≡ 0) ⊎ (square_of (from_to v portal.right) ≡ 0) → LiesThere v portal
    ends (inl none) = at_left (length-zero v portal.left (dot_of-itself (from_to v portal.left) ∙ ap pos none))
    ends (inr none) = at_right (length-zero v portal.right (dot_of-itself (from_to v portal.right) ∙ ap pos none))

    by : (dot_of (from_to v portal.left) (from_to v portal.right) <ℤ pos 0) ⊎ ((dot_of (from_to v portal.left) (from_to v portal.right) ≡ pos 0) ⊎ (pos 0 <ℤ dot_of (from_to v portal.left) (from_to v portal.right)))
        → LiesThere v portal
    by (inl less) = inside (record { on_line = on; between = less })
    by (inr (inr more)) = beside more
    by (inr (inl none)) =
        ends (sizes (square_of (from_to v portal.left)) (square_of (from_to v portal.right)) (dot_of (from_to v portal.left) (from_to v portal.right)) (cross_of (from_to v portal.left) (from_to v portal.right))
        (square_of-product (from_to v portal.left) (from_to v portal.right)) none (on_portal_line v portal ∙ ap neg_ℤ on))

-- ---- an end of a portal lies nowhere inside the next

in_line_of : (portal next : Portal) → StandsBefore portal next → (v : Point) → orient_of portal.right portal.left v ≡ pos 0 → IsInside v next → IsInLine portal next
in_line_of portal next before v on is =
    let lies = between-ahead portal.right portal.left v next.right next.left (inside_parts v next is) on before.left_ahead before.right_ahead in
    record { left = turned-zero portal.left portal.right next.left lies.left; right = turned-zero portal.left portal.right next.right lies.right }

pub left_not_inside : (portal next : Portal) → StandsBefore portal next → IsInside portal.left next → ⊥
left_not_inside portal next before is =
    let in_line = in_line_of portal next before portal.left (orient_of-end portal.right portal.left) is in
    before.apart (folds_at_left portal next in_line (before.opposite in_line) is)

pub right_not_inside : (portal next : Portal) → StandsBefore portal next → IsInside portal.right next → ⊥
right_not_inside portal next before is =
    let in_line = in_line_of portal next before portal.right (orient_of-start portal.right portal.left) is in
    before.apart (folds_at_right portal next in_line (before.opposite in_line) is)

-- ---- the left end is not the next portal's right end, and the right end not its left end

opposite_dot : (l r : Point) → dot_of (from_to r l) (from_to l r) ≡ neg_ℤ (dot_of (from_to r l) (from_to r l))
unfolding dot_of
opposite_dot l r = equal (coordinates (l ∷ r ∷ [])) (dot_term (from_to_term (place 1) (place 0)) (from_to_term (place 0) (place 1))) (opposite (dot_term (from_to_term (place 1) (place 0)) (from_to_term (place 1) (place 0)))) refl

way_back : (l r : Point) → l ≢ r → dot_of (from_to r l) (from_to l r) <ℤ pos 0
way_back l r apart = opposite-negative (dot_of (from_to r l) (from_to l r)) (dot_of (from_to r l) (from_to r l)) (opposite_dot l r) (length-positive r l (λ e. apart (sym e)))

not_negative-rotated : (l a r : Point) → pos 0 ≤ℤ orient_of l a r → pos 0 ≤ℤ orient_of r l a
not_negative-rotated l a r h = subst (λ (n : ℤ). pos 0 ≤ℤ n) (orient_of-rotated r l a) h

pub left_not_right : (portal next : Portal) → StandsBefore portal next → portal.left ≡ next.right → ⊥
left_not_right portal next before same =
    before.apart (record {
      left_on_line = in_line.left;
      right_on_line = in_line.right;
      opposite = ways;
      left_inside = subst (λ (n : ℤ). n <ℤ pos 0) (dot_of-exchanged (from_to portal.left next.left) (from_to portal.right portal.left)) (subst (λ (p : Point). dot_of (from_to portal.right portal.left) (from_to p next.left) <ℤ pos 0) (sym same) ways);
      right_inside = subst (λ (p : Point). dot_of (from_to portal.right p) (from_to portal.left portal.right) <ℤ pos 0) same (way_back portal.left portal.right before.wide);
    })
  where
    none : orient_of portal.right portal.left next.left ≡ pos 0
    none =
        zero-both (orient_of portal.right portal.left next.left) before.left_ahead
        (not_negative-rotated portal.left next.left portal.right (subst (λ (p : Point). pos 0 ≤ℤ orient_of p next.left portal.right) (sym same) before.right_behind))

    in_line : IsInLine portal next
    in_line = record {
      left = turned-zero portal.left portal.right next.left none;
      right = subst (λ (p : Point). orient_of portal.left portal.right p ≡ pos 0) same (orient_of-start portal.left portal.right);
    }

    ways : LookOpposite portal next
    ways = before.opposite in_line

reversed_dot : (l r b : Point) → dot_of (from_to r b) (from_to l r) ≡ dot_of (from_to r l) (from_to b r)
unfolding dot_of
reversed_dot l r b = equal (coordinates (l ∷ r ∷ b ∷ [])) (dot_term (from_to_term (place 1) (place 2)) (from_to_term (place 0) (place 1))) (dot_term (from_to_term (place 1) (place 0)) (from_to_term (place 2) (place 1))) refl

pub right_not_left : (portal next : Portal) → StandsBefore portal next → portal.right ≡ next.left → ⊥
right_not_left portal next before same =
    before.apart (record {
      left_on_line = in_line.left;
      right_on_line = in_line.right;
      opposite = ways;
      left_inside = subst (λ (p : Point). dot_of (from_to portal.left p) (from_to portal.right portal.left) <ℤ pos 0) same (subst (λ (n : ℤ). n <ℤ pos 0) (dot_of-exchanged (from_to portal.left portal.right) (from_to portal.right portal.left)) (way_back portal.left portal.right before.wide));
      right_inside = subst (λ (n : ℤ). n <ℤ pos 0) (sym (reversed_dot portal.left portal.right next.right)) (subst (λ (p : Point). dot_of (from_to portal.right portal.left) (from_to next.right p) <ℤ pos 0) (sym same) ways);
    })
  where
    none : orient_of portal.right portal.left next.right ≡ pos 0
    none = zero-both (orient_of portal.right portal.left next.right) before.right_ahead
        (subst (λ (n : ℤ). pos 0 ≤ℤ n) (sym (orient_of-rotated next.right portal.right portal.left)) (subst (λ (p : Point). pos 0 ≤ℤ orient_of next.right p portal.left) (sym same) before.left_behind))

    in_line : IsInLine portal next
    in_line = record {
      left = subst (λ (p : Point). orient_of portal.left portal.right p ≡ pos 0) same (orient_of-end portal.left portal.right);
      right = turned-zero portal.left portal.right next.right none;
    }

    ways : LookOpposite portal next
    ways = before.opposite in_line
