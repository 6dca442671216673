-- Each row of portals has a cone in its fan that tells a way to the goal, and no line over the portals is shorter.
use Rattle.std.proofs.Common.{◌≡◌, ◌≢◌, ◌⊎◌, Bool, true, false, ℤ, pos, ◌+ℤ◌, ◌*ℤ◌, ◌≤ℤ◌, ◌<ℤ◌, List, [], ◌∷◌, ◌++◌, refl, sym, subst, inl, inr, arith}
use Rattle.std.specs.Prelude.{not, if◌then◌else◌}
use Rattle.std.specs.List.{Contains}
use Rattle.std.specs.Int.Signed.{le_z}
use Rattle.std.proofs.lemmas.Int.{ints}
use Rattle.std.proofs.lemmas.Bool.{false≢true}
use Rattle.nav_base.specs.declared.point.Point.{Point}
use Rattle.nav_base.specs.Point.{from_to, dot_of, cross_of, orient_of}
use Rattle.nav_base.proofs.Polynomials.{sum, product, equal}
use Rattle.nav_base.proofs.PointTerms.{place, coordinates, cross_term}
use Rattle.mesh_types.specs.declared.links.Portal.{Portal}
use Rattle.mesh_types.specs.Chains.{IsAhead, IsBehind}
use Rattle.funnel_path.proofs.SideRules.{not_negative-signs, signs, weighted-not_negative, positive-weak, negative-weak}
use Rattle.funnel_path.proofs.PointLaws.{exchanged-negative, faces}
use Rattle.line_fans.specs.Fans.{Cone, StandsBefore, StandInRow, TellsShortest, cone_through, whole_cone, over, lowered_of}
use Rattle.line_fans.proofs.FanLaws.{settled_behind, straight_over, straight_cone, whole_over}
use Rattle.line_fans.proofs.FanCones.{IsOpen, GoesOn, straight_goes_on, right_end_right}
use Rattle.line_fans.proofs.FanCorners.{LiesThere, lies_there}
use Rattle.line_fans.proofs.FanTurns.{Found, seen, found_on}
use Rattle.line_fans.proofs.FanWhole.{Entered, IsOnPortal, as_cone, enter_beside, enter_on, inside_on, whole_end}
use Rattle.line_fans.proofs.FanSides.{WantsLeft, WantsRight, Sees, Outcome, sees, goes_left, goes_right, SeesAll, EntersAll}
use Rattle.line_fans.proofs.HeldLines.{held_under}
use Rattle.line_fans.proofs.LeftTurns.{zero_at_least, left_turns}
use Rattle.line_fans.proofs.RightTurns.{right_turns}
use Rattle.line_fans.proofs.LastLegs.{left_end, right_end, straight_end}

-- ---- straight on

-- b lies between r and l: so it does between rays that these do not leave
crosses_back : (u r l b : Point) → cross_of r l *ℤ cross_of b u ≡ cross_of b l *ℤ cross_of r u +ℤ cross_of r b *ℤ cross_of l u
unfolding cross_of
crosses_back u r l b =
    equal (coordinates (u ∷ r ∷ l ∷ b ∷ [])) (product (cross_term (place 1) (place 2)) (cross_term (place 3) (place 0)))
    (sum (product (cross_term (place 3) (place 2)) (cross_term (place 1) (place 0))) (product (cross_term (place 1) (place 3)) (cross_term (place 2) (place 0)))) refl

crosses_on : (u r l b : Point) → cross_of r l *ℤ cross_of u b ≡ cross_of u r *ℤ cross_of b l +ℤ cross_of u l *ℤ cross_of r b
unfolding cross_of
crosses_on u r l b =
    equal (coordinates (u ∷ r ∷ l ∷ b ∷ [])) (product (cross_term (place 1) (place 2)) (cross_term (place 0) (place 3)))
    (sum (product (cross_term (place 0) (place 1)) (cross_term (place 3) (place 2))) (product (cross_term (place 0) (place 2)) (cross_term (place 1) (place 3)))) refl

sees_on : (c : Cone) (portal next : Portal) (more : List Portal) (goal : Point) → Contains (over portal next c) (straight_cone next c) → GoesOn c (straight_cone next c) next → Sees (straight_cone next c) next more goal
    → Sees c portal (next ∷ more) goal
unfolding found_on orient_of
sees_on c portal next more goal has on s = record {
  found = found_on c (straight_cone next c) c.root portal next more goal has s.found;
  right_of_left = weighted-not_negative (cross_of right left) (cross_of s.found.b (from_to c.root c.left)) (cross_of s.found.b left) (cross_of right (from_to c.root c.left)) (cross_of right s.found.b) (cross_of left (from_to c.root c.left))
      (crosses_back (from_to c.root c.left) right left s.found.b) on.opens.wide s.right_of_left (positive-weak (cross_of right (from_to c.root c.left)) on.right_of_left) s.left_of_right on.left_in;
  left_of_right = weighted-not_negative (cross_of right left) (cross_of (from_to c.root c.right) s.found.b) (cross_of (from_to c.root c.right) right) (cross_of s.found.b left) (cross_of (from_to c.root c.right) left) (cross_of right s.found.b)
      (crosses_on (from_to c.root c.right) right left s.found.b) on.opens.wide on.right_in s.right_of_left (positive-weak (cross_of (from_to c.root c.right) left) on.left_of_right) s.left_of_right;
}
  where
    left : Point
    left = from_to c.root (straight_cone next c).left

    right : Point
    right = from_to c.root (straight_cone next c).right

-- ---- the whole

at_sign : (n : ℤ) → (n <ℤ pos 0) ⊎ (pos 0 ≤ℤ n)
at_sign n = elim (signs n) [ inl less ↦ inl less | inr (inl none) ↦ inr (zero_at_least n none) | inr (inr more) ↦ inr (positive-weak n more) ]

above_sign : (n : ℤ) → (n ≤ℤ pos 0) ⊎ (pos 0 <ℤ n)
above_sign n = elim (signs n) [ inl less ↦ inl (negative-weak n less) | inr (inl none) ↦ inl (at_most_zero n none) | inr (inr more) ↦ inr more ]
  where
    at_most_zero : (m : ℤ) → m ≡ pos 0 → m ≤ℤ pos 0
    at_most_zero m e = omega (arith, ints)

wide_of : (portal : Portal) (rest : List Portal) (goal : Point) → StandInRow portal rest goal → portal.left ≢ portal.right
wide_of portal [] goal row = row.0
wide_of portal (next ∷ more) goal row = row.0.wide

left_stays : (c : Cone) (next : Portal) (more : List Portal) (goal : Point) → (straight_cone next c).through_left ≡ false → WantsLeft c.root (straight_cone next c).left more goal
    → (pos 0 <ℤ orient_of c.root c.left next.left) × WantsLeft c.root c.left more goal
left_stays c next more goal e wants = by (le_z (orient_of c.root c.left next.left) (pos 0)) refl e wants
  where
    by : (b : Bool) → le_z (orient_of c.root c.left next.left) (pos 0) ≡ b → not (not b) ≡ false → WantsLeft c.root (if not b then c.left else next.left) more goal
        → (pos 0 <ℤ orient_of c.root c.left next.left) × WantsLeft c.root c.left more goal
    by false test e wants = (grind (arith, ints), wants)
    by true test e wants = absurd (false≢true (sym e))

right_stays : (c : Cone) (next : Portal) (more : List Portal) (goal : Point) → (straight_cone next c).through_right ≡ false → WantsRight c.root (straight_cone next c).right more goal
    → (orient_of c.root c.right next.right <ℤ pos 0) × WantsRight c.root c.right more goal
right_stays c next more goal e wants = by (le_z (pos 0) (orient_of c.root c.right next.right)) refl e wants
  where
    by : (b : Bool) → le_z (pos 0) (orient_of c.root c.right next.right) ≡ b → not (not b) ≡ false → WantsRight c.root (if not b then c.right else next.right) more goal
        → (orient_of c.root c.right next.right <ℤ pos 0) × WantsRight c.root c.right more goal
    by false test e wants = (grind (arith, ints), wants)
    by true test e wants = absurd (false≢true (sym e))

sees_more : (portal next : Portal) (more : List Portal) (goal : Point) → StandsBefore portal next → next.left ≢ next.right → SeesAll next more goal → EntersAll next more goal → SeesAll portal (next ∷ more) goal
sees_more portal next more goal before wide all enters c is = by_left (at_sign (orient_of c.root c.left next.right))
  where
    to_left : WantsLeft c.root c.left (next ∷ more) goal → Outcome c portal (next ∷ more) goal
    to_left wants =
        elim is.left_end [ inl through ↦ sees (left_turns c portal next more goal is through.0 through.1 before all enters wants) | inr outside ↦ goes_left outside.0 wants ]

    by_straight : orient_of c.root c.left next.right <ℤ pos 0 → pos 0 <ℤ orient_of c.root c.right next.left → Outcome (straight_cone next c) next more goal → Outcome c portal (next ∷ more) goal
    by_straight open_right open_left (sees s) = sees (sees_on c portal next more goal (straight_over portal next c is.narrow open_left open_right) (straight_goes_on c portal next is before wide open_left open_right) s)
    by_straight open_right open_left (goes_left e wants) = let stays = left_stays c next more goal e wants in to_left (inr (open_right, stays.0, stays.1))
    by_straight open_right open_left (goes_right e wants) =
        let stays = right_stays c next more goal e wants in
        elim is.right_end [
          | inl through ↦ sees (right_turns c portal next more goal is through.0 through.1 before all enters (inr (stays.0, open_left, stays.1)))
          | inr outside ↦ goes_right outside.0 (stays.0, inr (open_left, stays.1))
        ]

    by_right : orient_of c.root c.left next.right <ℤ pos 0 → (orient_of c.root c.right next.left ≤ℤ pos 0) ⊎ (pos 0 <ℤ orient_of c.root c.right next.left) → Outcome c portal (next ∷ more) goal
    by_right open_right (inr open_left) = by_straight open_right open_left (all (straight_cone next c) (straight_goes_on c portal next is before wide open_left open_right).opens)
    by_right open_right (inl closed) =
        elim is.right_end [
          | inl through ↦ sees (right_turns c portal next more goal is through.0 through.1 before all enters (inl closed))
          | inr outside ↦ goes_right outside.0 (right_end_right c portal next is before wide outside.1 closed open_right, inl closed)
        ]

    by_left : (orient_of c.root c.left next.right <ℤ pos 0) ⊎ (pos 0 ≤ℤ orient_of c.root c.left next.right) → Outcome c portal (next ∷ more) goal
    by_left (inr closed) = to_left (inl closed)
    by_left (inl open_right) = by_right open_right (above_sign (orient_of c.root c.right next.left))

-- a line into a portal from what lies behind it or on its line
enters_all : (portal : Portal) (rest : List Portal) (goal : Point) → portal.left ≢ portal.right → SeesAll portal rest goal
    → ((before : List Point) (root : Point) → IsOnPortal root portal → Found (whole_cone before root portal) before root portal rest goal) → EntersAll portal rest goal
unfolding as_cone
enters_all portal rest goal wide all whole before root behind = by (not_negative-signs (orient_of portal.right portal.left root) behind)
  where
    first : Cone
    first = record { before = before; root = root; left = portal.left; right = portal.right; through_left = true; through_right = true; whole = false }

    opened : pos 0 <ℤ orient_of portal.right portal.left root → IsOpen first portal
    opened more = record {
      narrow = refl;
      behind = more;
      wide = faces root portal.right portal.left more;
      right_of_left = exchanged-negative root portal.left portal.right (faces root portal.right portal.left more);
      left_of_right = faces root portal.right portal.left more;
      left_end = inl (refl, refl);
      right_end = inl (refl, refl);
    }

    by_outcome : pos 0 <ℤ orient_of portal.right portal.left root → Outcome first portal rest goal → Entered before root portal rest goal
    by_outcome more (sees s) = record {
      found = as_cone (cone_through before root portal) first before root portal rest goal (settled_behind portal first more) s.found;
      toward = seen more s.right_of_left s.left_of_right;
    }
    by_outcome more (goes_left e wants) = absurd (false≢true (sym e))
    by_outcome more (goes_right e wants) = absurd (false≢true (sym e))

    end_on : (p : Point) → (p ≡ portal.left) ⊎ (p ≡ portal.right) → IsOnPortal p portal
    end_on p (inl same) next stands = subst (λ (q : Point). IsBehind next q) (sym same) stands.left_behind
    end_on p (inr same) next stands = subst (λ (q : Point). IsBehind next q) (sym same) stands.right_behind

    by_place : orient_of portal.right portal.left root ≡ pos 0 → LiesThere root portal → (far : (dot_of (from_to root portal.left) (from_to root portal.right) ≤ℤ pos 0) ⊎ (pos 0 <ℤ dot_of (from_to root portal.left) (from_to root portal.right)))
        → Entered before root portal rest goal
    by_place none place (inr far) = enter_beside before root portal rest goal wide none far (λ p is. whole (before ++ root ∷ []) p (end_on p is))
    by_place none place (inl near) =
        enter_on before root portal rest goal wide none place (λ far. apart (dot_of (from_to root portal.left) (from_to root portal.right)) near far)
        (whole before root (inside_on root portal place (λ far. apart (dot_of (from_to root portal.left) (from_to root portal.right)) near far)))
      where
        apart : (n : ℤ) → n ≤ℤ pos 0 → pos 0 <ℤ n → ⊥
        apart n h k = omega (arith, ints)

    by : (orient_of portal.right portal.left root ≡ pos 0) ⊎ (pos 0 <ℤ orient_of portal.right portal.left root) → Entered before root portal rest goal
    by (inl none) = by_place none (lies_there root portal none) (above_sign (dot_of (from_to root portal.left) (from_to root portal.right)))
    by (inr more) = by_outcome more (all first (opened more))

whole_more : (portal next : Portal) (more : List Portal) (goal : Point) → StandsBefore portal next → EntersAll next more goal → (before : List Point) (root : Point) → IsOnPortal root portal
    → Found (whole_cone before root portal) before root portal (next ∷ more) goal
whole_more portal next more goal stands enters before root on =
    found_on (whole_cone before root portal) (cone_through before root next) root portal next more goal (whole_over portal next (whole_cone before root portal) refl) (enters before root (on next stands)).found

sees_end : (portal : Portal) (goal : Point) → IsAhead portal goal → SeesAll portal [] goal
sees_end portal goal ahead c is = by_left (above_sign (orient_of c.root c.left goal)) (at_sign (orient_of c.root c.right goal))
  where
    by_left : (orient_of c.root c.left goal ≤ℤ pos 0) ⊎ (pos 0 <ℤ orient_of c.root c.left goal) → (orient_of c.root c.right goal <ℤ pos 0) ⊎ (pos 0 ≤ℤ orient_of c.root c.right goal) → Outcome c portal [] goal
    by_left (inr wants) right =
        elim is.left_end [ inl through ↦ sees (left_end c portal goal is ahead through.0 through.1 wants) | inr outside ↦ goes_left outside.0 wants ]
    by_left (inl inside_left) (inl wants) =
        elim is.right_end [ inl through ↦ sees (right_end c portal goal is ahead through.0 through.1 inside_left wants) | inr outside ↦ goes_right outside.0 wants ]
    by_left (inl inside_left) (inr inside_right) = sees (straight_end c portal goal is ahead inside_left inside_right)

both : (portal : Portal) (rest : List Portal) (goal : Point) → StandInRow portal rest goal → SeesAll portal rest goal × EntersAll portal rest goal
both portal [] goal row =
    let all = sees_end portal goal row.1 in (all, enters_all portal [] goal row.0 all (λ before root on. whole_end before root portal goal row.0))
both portal (next ∷ more) goal row =
    let later = both next more goal row.1 in
    let all = sees_more portal next more goal row.0 (wide_of next more goal row.1) later.0 later.1 in
    (all, enters_all portal (next ∷ more) goal row.0.wide all (whole_more portal next more goal row.0 later.1))

-- from what lies behind the first portal, or on its line, the fan tells a way to the goal that is held, and so a shortest one
pub fan_tells : (start goal : Point) (portal : Portal) (rest : List Portal) → IsBehind portal start → StandInRow portal rest goal → TellsShortest start portal rest goal
fan_tells start goal portal rest behind row =
    let found = ((both portal rest goal row).1 [] start behind).found in
    record {
      cone = found.last;
      of_fan = found.of_fan;
      points = found.points;
      told = found.told;
      under = held_under goal start found.b (portal ∷ rest) (lowered_of (start ∷ found.points)) found.some found.held;
    }
