-- Turns to the right, round the right end of a portal, on a line that a fan tells.
use Rattle.std.proofs.Common.{◌≡◌, ◌⊎◌, true, ℤ, pos, ◌≤ℤ◌, ◌<ℤ◌, List, [], ◌∷◌, ◌++◌, refl, sym, subst, ◌∙◌, inl, inr, arith}
use Rattle.std.proofs.lemmas.Int.{ints}
use Rattle.std.proofs.lemmas.Bool.{false≢true}
use lib.IntN.{neg_ℤ}
use Rattle.nav_base.specs.declared.point.Point.{Point}
use Rattle.nav_base.specs.Point.{from_to, cross_of, orient_of}
use Rattle.nav_base.proofs.OrientLaws.{cross_of-exchanged}
use Rattle.mesh_types.specs.declared.links.Portal.{Portal}
use Rattle.funnel_path.proofs.SideRules.{not_negative-signs, positive-weak}
use Rattle.funnel_path.proofs.PointLaws.{exchanged-positive, faces}
use Rattle.line_fans.specs.Fans.{Cone, StandsBefore, cone_through, settled, beyond}
use Rattle.line_fans.proofs.FanLaws.{right_over_all, right_over_part, right_part, settled_behind}
use Rattle.line_fans.proofs.FanCones.{IsOpen}
use Rattle.line_fans.proofs.FanCorners.{LiesThere, inside, at_left, at_right, beside, lies_there, right_not_inside, right_not_left}
use Rattle.line_fans.proofs.FanTurns.{IsRightCorner, found_turned, right_toward}
use Rattle.line_fans.proofs.FanWhole.{as_cone}
use Rattle.line_fans.proofs.FanSides.{WantsRight, not_both, beyond_side, beyond_left, Sees, Outcome, sees, goes_left, goes_right, SeesAll, EntersAll, turned_right_sees, between_sides}
use Rattle.line_fans.proofs.SideTurns.{right_turn, some_length, from_before}
use Rattle.line_fans.proofs.LeftTurns.{at_least, more_than, less_than, zero_at_least, cross_beyond_left, cross_still}

right_corner : (o : Point) (portal next : Portal) → StandsBefore portal next → pos 0 <ℤ orient_of o portal.right portal.left → orient_of o portal.right next.left ≤ℤ pos 0 → IsRightCorner o portal.right portal.left next
right_corner o portal next before left closed = record {
  other_left = more_than (cross_of (from_to o portal.right) (from_to portal.right portal.left)) (orient_of o portal.right portal.left) (from_before o portal.right portal.left) left;
  left_ahead = before.left_ahead;
  right_ahead = before.right_ahead;
  left_right = closed;
  not_inside = right_not_inside portal next before;
  not_left = right_not_left portal next before;
}

right_all : (c : Cone) (portal next : Portal) (more : List Portal) (goal : Point) → IsOpen c portal → c.through_right ≡ true → c.right ≡ portal.right → StandsBefore portal next → EntersAll next more goal
    → pos 0 <ℤ orient_of c.root portal.right portal.left → orient_of c.root portal.right next.left ≤ℤ pos 0 → Sees c portal (next ∷ more) goal
unfolding found_turned
right_all c portal next more goal is through same before enters left closed =
    let corner = right_corner c.root portal next before left closed in
    let entered = enters (c.before ++ c.root ∷ []) portal.right before.right_behind in
    let lengths = some_length (from_to c.root portal.right) (from_to portal.right portal.left) corner.other_left in
    turned_right_sees c portal (next ∷ more) goal is same
    (found_turned c (cone_through (c.before ++ c.root ∷ []) portal.right next) portal.right portal.left portal next more goal (inr (refl, refl))
    (right_over_all portal next c is.narrow through (subst (λ (p : Point). orient_of c.root p next.left ≤ℤ pos 0) (sym same) closed)) entered.found
    (right_toward c.root portal.right portal.left next entered.found.b corner entered.found.some entered.toward) lengths.1 lengths.0)
    refl

right_open : (c : Cone) (portal next : Portal) → pos 0 <ℤ orient_of next.right next.left portal.right → pos 0 <ℤ orient_of c.root portal.right next.left → orient_of c.root portal.right next.right <ℤ pos 0 → IsOpen (right_part portal next c) next
right_open c portal next behind left right = record {
  narrow = refl;
  behind = behind;
  wide = exchanged-positive portal.right next.right (beyond c.root portal.right) (less_than (orient_of portal.right (beyond c.root portal.right) next.right) (orient_of c.root portal.right next.right) (beyond_side c.root portal.right next.right) right);
  right_of_left = less_than (orient_of portal.right (beyond c.root portal.right) next.right) (orient_of c.root portal.right next.right) (beyond_side c.root portal.right next.right) right;
  left_of_right = faces portal.right next.right next.left behind;
  left_end = inr (refl, more_than (orient_of portal.right (beyond c.root portal.right) next.left) (orient_of c.root portal.right next.left) (beyond_side c.root portal.right next.left) left);
  right_end = inl (refl, refl);
}

right_behind_next : (o : Point) (portal next : Portal) → StandsBefore portal next → pos 0 <ℤ orient_of o portal.right next.left → orient_of o portal.right next.right <ℤ pos 0 → pos 0 <ℤ orient_of next.right next.left portal.right
right_behind_next o portal next before left right = by (not_negative-signs (orient_of next.right next.left portal.right) before.right_behind)
  where
    nowhere : orient_of next.right next.left portal.right ≡ pos 0 → LiesThere portal.right next → ⊥
    nowhere on (inside is) = right_not_inside portal next before is
    nowhere on (at_left same) = (between_sides o portal.right next on left right).0.0 same
    nowhere on (at_right same) = (between_sides o portal.right next on left right).0.1 same
    nowhere on (beside far) = (between_sides o portal.right next on left right).1 far

    by : (orient_of next.right next.left portal.right ≡ pos 0) ⊎ (pos 0 <ℤ orient_of next.right next.left portal.right) → pos 0 <ℤ orient_of next.right next.left portal.right
    by (inr behind) = behind
    by (inl on) = absurd (nowhere on (lies_there portal.right next on))

pub turned : (u v : Point) → cross_of u v ≤ℤ pos 0 → pos 0 ≤ℤ cross_of v u
turned u v h = by (cross_of u v) (cross_of v u) (cross_of-exchanged u v) h
  where
    by : (m n : ℤ) → n ≡ neg_ℤ m → m ≤ℤ pos 0 → pos 0 ≤ℤ n
    by m n e h = omega (arith, ints)

right_partly : (c : Cone) (portal next : Portal) (more : List Portal) (goal : Point) → IsOpen c portal → c.through_right ≡ true → c.right ≡ portal.right → StandsBefore portal next → SeesAll next more goal
    → pos 0 <ℤ orient_of c.root portal.right portal.left → orient_of c.root portal.right next.right <ℤ pos 0 → pos 0 <ℤ orient_of c.root portal.right next.left → WantsRight c.root portal.right more goal
    → Sees c portal (next ∷ more) goal
unfolding found_turned orient_of as_cone
right_partly c portal next more goal is through same before all left open_right open_left wants = by (all (right_part portal next c) (right_open c portal next behind open_left open_right))
  where
    behind : pos 0 <ℤ orient_of next.right next.left portal.right
    behind = right_behind_next c.root portal next before open_left open_right

    other_left : pos 0 <ℤ cross_of (from_to c.root portal.right) (from_to portal.right portal.left)
    other_left = more_than (cross_of (from_to c.root portal.right) (from_to portal.right portal.left)) (orient_of c.root portal.right portal.left) (from_before c.root portal.right portal.left) left

    by : Outcome (right_part portal next c) next more goal → Sees c portal (next ∷ more) goal
    by (goes_right e wants') = absurd (false≢true (sym e))
    by (goes_left e wants') = absurd (not_both c.root portal.right more goal (beyond_left c.root portal.right more goal wants') wants)
    by (sees s) =
        let lengths = some_length (from_to c.root portal.right) (from_to portal.right portal.left) other_left in
        turned_right_sees c portal (next ∷ more) goal is same
        (found_turned c (settled next (right_part portal next c)) portal.right portal.left portal next more goal (inr (refl, refl))
        (right_over_part portal next c is.narrow through (subst (λ (p : Point). pos 0 <ℤ orient_of c.root p next.left) (sym same) open_left) (subst (λ (p : Point). orient_of c.root p next.right <ℤ pos 0) (sym same) open_right))
        (as_cone (settled next (right_part portal next c)) (right_part portal next c) (c.before ++ c.root ∷ []) portal.right next more goal (settled_behind next (right_part portal next c) behind) s.found)
        (record {
          w = s.found.b;
          some = s.found.some;
          turn = right_turn (from_to c.root portal.right) s.found.b (from_to portal.right portal.left) (from_to portal.right (beyond c.root portal.right)) (from_to portal.right next.right) (record {
            other_left = other_left;
            right_ahead = turned (from_to portal.right portal.left) (from_to portal.right next.right) before.right_ahead;
            left_ahead = at_least (cross_of (from_to portal.right (beyond c.root portal.right)) (from_to portal.right portal.left)) (cross_of (from_to c.root portal.right) (from_to portal.right portal.left))
                (cross_beyond_left (from_to portal.right portal.left) c.root portal.right) (positive-weak (cross_of (from_to c.root portal.right) (from_to portal.right portal.left)) other_left);
            left_right = zero_at_least (cross_of (from_to portal.right (beyond c.root portal.right)) (from_to c.root portal.right)) (cross_beyond_left (from_to c.root portal.right) c.root portal.right ∙ cross_still c.root portal.right);
            wide = exchanged-positive portal.right next.right (beyond c.root portal.right) (less_than (orient_of portal.right (beyond c.root portal.right) next.right) (orient_of c.root portal.right next.right) (beyond_side c.root portal.right next.right) open_right);
            right_of_left = s.right_of_left;
            left_of_right = s.left_of_right;
          }) s.found.some;
          same = inl refl;
        }) lengths.1 lengths.0)
        refl

pub right_turns : (c : Cone) (portal next : Portal) (more : List Portal) (goal : Point) → IsOpen c portal → c.through_right ≡ true → c.right ≡ portal.right → StandsBefore portal next → SeesAll next more goal → EntersAll next more goal
    → (orient_of c.root c.right next.left ≤ℤ pos 0) ⊎ ((orient_of c.root c.right next.right <ℤ pos 0) × (pos 0 <ℤ orient_of c.root c.right next.left) × WantsRight c.root c.right more goal) → Sees c portal (next ∷ more) goal
right_turns c portal next more goal is through same before all enters wants =
    by (subst (λ (p : Point). (orient_of c.root p next.left ≤ℤ pos 0) ⊎ ((orient_of c.root p next.right <ℤ pos 0) × (pos 0 <ℤ orient_of c.root p next.left) × WantsRight c.root p more goal)) same wants)
  where
    left : pos 0 <ℤ orient_of c.root portal.right portal.left
    left = subst (λ (p : Point). pos 0 <ℤ orient_of c.root p portal.left) same is.left_of_right

    by : (orient_of c.root portal.right next.left ≤ℤ pos 0) ⊎ ((orient_of c.root portal.right next.right <ℤ pos 0) × (pos 0 <ℤ orient_of c.root portal.right next.left) × WantsRight c.root portal.right more goal) → Sees c portal (next ∷ more) goal
    by (inl closed) = right_all c portal next more goal is through same before enters left closed
    by (inr (open_right, open_left, wants')) = right_partly c portal next more goal is through same before all left open_right open_left wants'
