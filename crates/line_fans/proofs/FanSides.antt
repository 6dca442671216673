-- Whether a line that goes straight on from a cone's root wants to leave the cone over its left ray, over its right ray, or not; and the turns round
-- the ends through which the rays go.
use Rattle.std.proofs.Common.{◌≡◌, ℕ, ◌<◌, ◌⊎◌, false, ℤ, pos, ◌*ℤ◌, ◌≤ℤ◌, ◌<ℤ◌, List, [], ◌∷◌, refl, sym, ap, subst, ◌∙◌, inl, inr, arith}
use Rattle.std.proofs.lemmas.Int.{ints}
use lib.IntN.{neg_ℤ}
use Rattle.nav_base.specs.declared.point.Point.{Point}
use Rattle.nav_base.specs.Point.{from_to, dot_of, cross_of, orient_of}
use Rattle.nav_base.proofs.Polynomials.{at, sum, difference, equal}
use Rattle.nav_base.proofs.PointTerms.{Place, place, coordinates, orient_term}
use Rattle.nav_base.proofs.OrientLaws.{cross_of-itself, cross_of-exchanged, dot_of-exchanged, orient_of-end}
use Rattle.nav_base.proofs.Signs.{product-positive, product-negative}
use Rattle.mesh_types.specs.declared.links.Portal.{Portal}
use Rattle.mesh_types.specs.Chains.{IsBehind}
use Rattle.funnel_path.proofs.SideRules.{not_negative-signs, positive-not_zero, positive-weak}
use Rattle.funnel_path.proofs.PointLaws.{exchanged-negative, exchanged-positive}
use Rattle.line_fans.specs.Fans.{Cone, beyond}
use Rattle.line_fans.proofs.FanCones.{IsOpen}
use Rattle.line_fans.proofs.FanCorners.{LiesThere, lies_there, on_portal_line}
use Rattle.line_fans.proofs.FanTurns.{Found}
use Rattle.line_fans.proofs.FanWhole.{Entered, same_way}
use Rattle.line_fans.proofs.SideTurns.{to_before}
use Rattle.line_fans.proofs.Turns.{IsSameWay, same_cross}

-- portals and a goal lead over a ray to the left: up to some portal all have ends on both sides of it, and that one has its right end on its left or on
-- it, or the goal lies to its left
abbrev pub WantsLeft : Point → Point → List Portal → Point → Type 0
WantsLeft o v [] goal = pos 0 <ℤ orient_of o v goal
WantsLeft o v (next ∷ more) goal =
    (pos 0 ≤ℤ orient_of o v next.right) ⊎ ((orient_of o v next.right <ℤ pos 0) × (pos 0 <ℤ orient_of o v next.left) × WantsLeft o v more goal)

abbrev pub WantsRight : Point → Point → List Portal → Point → Type 0
WantsRight o v [] goal = orient_of o v goal <ℤ pos 0
WantsRight o v (next ∷ more) goal =
    (orient_of o v next.right <ℤ pos 0) × ((orient_of o v next.left ≤ℤ pos 0) ⊎ ((pos 0 <ℤ orient_of o v next.left) × WantsRight o v more goal))

-- they do not lead over a ray to both sides
pub not_both : (o v : Point) (rest : List Portal) (goal : Point) → WantsLeft o v rest goal → WantsRight o v rest goal → ⊥
not_both o v [] goal left right = apart (orient_of o v goal) left right
  where
    apart : (n : ℤ) → pos 0 <ℤ n → n <ℤ pos 0 → ⊥
    apart n h k = omega (arith, ints)
not_both o v (next ∷ more) goal (inl closed) (right, rest) = apart (orient_of o v next.right) closed right
  where
    apart : (n : ℤ) → pos 0 ≤ℤ n → n <ℤ pos 0 → ⊥
    apart n h k = omega (arith, ints)
not_both o v (next ∷ more) goal (inr (right, left, wants)) (right', inl closed) = apart (orient_of o v next.left) left closed
  where
    apart : (n : ℤ) → pos 0 <ℤ n → n ≤ℤ pos 0 → ⊥
    apart n h k = omega (arith, ints)
not_both o v (next ∷ more) goal (inr (right, left, wants)) (right', inr (left', wants')) = not_both o v more goal wants wants'

-- the ray from v on is the ray from o through v
pub beyond_side : (o v x : Point) → orient_of v (beyond o v) x ≡ orient_of o v x
unfolding orient_of cross_of
beyond_side o v x = equal (coordinates (o ∷ v ∷ x ∷ [])) (orient_term (place 1) further (place 2)) (orient_term (place 0) (place 1) (place 2)) refl
  where
    further : Place
    further = record { x = difference (sum (at 2) (at 2)) (at 0); z = difference (sum (at 3) (at 3)) (at 1) }

pub beyond_left : (o v : Point) (rest : List Portal) (goal : Point) → WantsLeft v (beyond o v) rest goal → WantsLeft o v rest goal
beyond_left o v [] goal wants = subst (λ (n : ℤ). pos 0 <ℤ n) (beyond_side o v goal) wants
beyond_left o v (next ∷ more) goal (inl closed) = inl (subst (λ (n : ℤ). pos 0 ≤ℤ n) (beyond_side o v next.right) closed)
beyond_left o v (next ∷ more) goal (inr (right, left, wants)) =
    inr (subst (λ (n : ℤ). n <ℤ pos 0) (beyond_side o v next.right) right, subst (λ (n : ℤ). pos 0 <ℤ n) (beyond_side o v next.left) left, beyond_left o v more goal wants)

pub beyond_right : (o v : Point) (rest : List Portal) (goal : Point) → WantsRight v (beyond o v) rest goal → WantsRight o v rest goal
beyond_right o v [] goal wants = subst (λ (n : ℤ). n <ℤ pos 0) (beyond_side o v goal) wants
beyond_right o v (next ∷ more) goal (right, inl closed) = (subst (λ (n : ℤ). n <ℤ pos 0) (beyond_side o v next.right) right, inl (subst (λ (n : ℤ). n ≤ℤ pos 0) (beyond_side o v next.left) closed))
beyond_right o v (next ∷ more) goal (right, inr (left, wants)) =
    (subst (λ (n : ℤ). n <ℤ pos 0) (beyond_side o v next.right) right, inr (subst (λ (n : ℤ). pos 0 <ℤ n) (beyond_side o v next.left) left, beyond_right o v more goal wants))

-- ---- what an open cone leads to

-- a line between its rays
pub record Sees (c : Cone) (portal : Portal) (rest : List Portal) (goal : Point) : Type 0 where
  pub found : Found c c.before c.root portal rest goal
  pub right_of_left : pos 0 ≤ℤ cross_of found.b (from_to c.root c.left)
  pub left_of_right : pos 0 ≤ℤ cross_of (from_to c.root c.right) found.b

pub data Outcome (c : Cone) (portal : Portal) (rest : List Portal) (goal : Point) : Type 0 where
  sees : Sees c portal rest goal → Outcome c portal rest goal
  goes_left : c.through_left ≡ false → WantsLeft c.root c.left rest goal → Outcome c portal rest goal
  goes_right : c.through_right ≡ false → WantsRight c.root c.right rest goal → Outcome c portal rest goal

abbrev pub SeesAll : Portal → List Portal → Point → Type 0
SeesAll portal rest goal = (c : Cone) → IsOpen c portal → Outcome c portal rest goal

abbrev pub EntersAll : Portal → List Portal → Point → Type 0
EntersAll portal rest goal = (before : List Point) (root : Point) → IsBehind portal root → Entered before root portal rest goal

-- ---- a turn to the left

at_least : (m n : ℤ) → m ≡ n → pos 0 ≤ℤ n → pos 0 ≤ℤ m
at_least m n e h = omega (arith, ints)

more_than : (m n : ℤ) → m ≡ n → pos 0 <ℤ n → pos 0 <ℤ m
more_than m n e h = omega (arith, ints)

zero_at_least : (m : ℤ) → m ≡ pos 0 → pos 0 ≤ℤ m
zero_at_least m e = omega (arith, ints)

-- the cone behind a turn: it sees the way to the end
pub turned_left_sees : (c : Cone) (portal : Portal) (rest : List Portal) (goal : Point) → IsOpen c portal → c.left ≡ portal.left → (f : Found c c.before c.root portal rest goal) → f.b ≡ from_to c.root portal.left
    → Sees c portal rest goal
unfolding orient_of
turned_left_sees c portal rest goal is through f to = record {
  found = f;
  right_of_left = subst (λ (b : Point). pos 0 ≤ℤ cross_of b (from_to c.root c.left)) (sym to) (subst (λ (p : Point). pos 0 ≤ℤ cross_of (from_to c.root portal.left) (from_to c.root p)) (sym through)
      (zero_at_least (cross_of (from_to c.root portal.left) (from_to c.root portal.left)) (cross_of-itself (from_to c.root portal.left))));
  left_of_right = subst (λ (b : Point). pos 0 ≤ℤ cross_of (from_to c.root c.right) b) (sym to) (positive-weak (orient_of c.root c.right portal.left) is.left_of_right);
}

pub turned_right_sees : (c : Cone) (portal : Portal) (rest : List Portal) (goal : Point) → IsOpen c portal → c.right ≡ portal.right → (f : Found c c.before c.root portal rest goal) → f.b ≡ from_to c.root portal.right
    → Sees c portal rest goal
unfolding orient_of
turned_right_sees c portal rest goal is through f to = record {
  found = f;
  right_of_left = subst (λ (b : Point). pos 0 ≤ℤ cross_of b (from_to c.root c.left)) (sym to) (positive-weak (orient_of c.root portal.right c.left) (exchanged-positive c.root portal.right c.left is.right_of_left));
  left_of_right = subst (λ (b : Point). pos 0 ≤ℤ cross_of (from_to c.root c.right) b) (sym to) (subst (λ (p : Point). pos 0 ≤ℤ cross_of (from_to c.root p) (from_to c.root portal.right)) (sym through)
      (zero_at_least (cross_of (from_to c.root portal.right) (from_to c.root portal.right)) (cross_of-itself (from_to c.root portal.right))));
}

-- a corner on the next portal's line, where that portal's ends lie strictly on both sides of the way there: it is inside that portal
pub between_sides : (o v : Point) (next : Portal) → orient_of next.right next.left v ≡ pos 0 → pos 0 <ℤ orient_of o v next.left → orient_of o v next.right <ℤ pos 0 → ((v ≡ next.left → ⊥) × (v ≡ next.right → ⊥)) × (pos 0 <ℤ dot_of (from_to v next.left) (from_to v next.right) → ⊥)
between_sides o v next on left right = ((λ e. positive-not_zero (orient_of o v next.left) left (ap (λ (p : Point). orient_of o v p) (sym e) ∙ orient_of-end o v), λ e. negative (orient_of o v next.right) right (ap (λ (p : Point). orient_of o v p) (sym e) ∙ orient_of-end o v)), far)
  where
    negative : (n : ℤ) → n <ℤ pos 0 → n ≡ pos 0 → ⊥
    negative n h e = omega (arith, ints)

    some : (n : ℕ) → 0 < n → pos 0 <ℤ pos n
    some n h = omega (arith, ints)

    opposite_sides : (m n : ℤ) → m ≡ n → pos 0 <ℤ m → n <ℤ pos 0 → ⊥
    opposite_sides m n e h k = omega (arith, ints)

    by : IsSameWay (from_to v next.right) (from_to v next.left) → ⊥
    by same =
        opposite_sides (pos same.y *ℤ cross_of (from_to v next.right) (from_to o v)) (pos same.z *ℤ cross_of (from_to v next.left) (from_to o v)) (same_cross (from_to v next.right) (from_to v next.left) (from_to o v) same)
        (product-positive (pos same.y) (cross_of (from_to v next.right) (from_to o v)) (some same.y same.some) (more_than (cross_of (from_to v next.right) (from_to o v)) (orient_of o next.right v) (to_before o v next.right) (exchanged-positive o next.right v right)))
        (product-negative (pos same.z) (cross_of (from_to v next.left) (from_to o v)) (some same.z same.some') (less (cross_of (from_to v next.left) (from_to o v)) (orient_of o next.left v) (to_before o v next.left) (exchanged-negative o next.left v left)))
      where
        less : (m n : ℤ) → m ≡ n → n <ℤ pos 0 → m <ℤ pos 0
        less m n e h = omega (arith, ints)

    none : cross_of (from_to v next.right) (from_to v next.left) ≡ pos 0
    none = back (cross_of (from_to v next.right) (from_to v next.left)) (cross_of (from_to v next.left) (from_to v next.right)) (cross_of-exchanged (from_to v next.left) (from_to v next.right)) (on_portal_line v next ∙ ap neg_ℤ on)
      where
        back : (m n : ℤ) → m ≡ neg_ℤ n → n ≡ pos 0 → m ≡ pos 0
        back m n e h = omega (arith, ints)

    far : pos 0 <ℤ dot_of (from_to v next.left) (from_to v next.right) → ⊥
    far onward = by (same_way (from_to v next.right) (from_to v next.left) none (subst (λ (n : ℤ). pos 0 <ℤ n) (dot_of-exchanged (from_to v next.right) (from_to v next.left)) onward))

pub strictly_behind : (o v : Point) (next : Portal) → pos 0 ≤ℤ orient_of next.right next.left v → pos 0 <ℤ orient_of o v next.left → orient_of o v next.right <ℤ pos 0 → (LiesThere v next → ⊥) → pos 0 <ℤ orient_of next.right next.left v
strictly_behind o v next behind left right not = elim (not_negative-signs (orient_of next.right next.left v) behind) [ inr more ↦ more | inl none ↦ absurd (not (lies_there v next none)) ]
