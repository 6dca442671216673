-- Turns to the left, round the left end of a portal, on a line that a fan tells.
use Rattle.std.proofs.Common.{◌≡◌, ◌⊎◌, true, ℤ, pos, ◌≤ℤ◌, ◌<ℤ◌, List, [], ◌∷◌, ◌++◌, refl, sym, subst, ◌∙◌, inl, inr, arith}
use Rattle.std.proofs.lemmas.Int.{ints}
use Rattle.std.proofs.lemmas.Bool.{false≢true}
use Rattle.nav_base.specs.declared.point.Point.{Point}
use Rattle.nav_base.specs.Point.{from_to, cross_of, orient_of}
use Rattle.nav_base.proofs.Polynomials.{at, number, sum, difference, equal}
use Rattle.nav_base.proofs.PointTerms.{Place, place, coordinates, from_to_term, cross_term}
use Rattle.mesh_types.specs.declared.links.Portal.{Portal}
use Rattle.funnel_path.proofs.SideRules.{not_negative-signs, positive-weak}
use Rattle.funnel_path.proofs.PointLaws.{exchanged-negative, exchanged-positive, faces, turned-not_negative}
use Rattle.line_fans.specs.Fans.{Cone, StandsBefore, cone_through, settled, beyond}
use Rattle.line_fans.proofs.FanLaws.{left_over_all, left_over_part, left_part, settled_behind}
use Rattle.line_fans.proofs.FanCones.{IsOpen}
use Rattle.line_fans.proofs.FanCorners.{LiesThere, inside, at_left, at_right, beside, lies_there, left_not_inside, left_not_right}
use Rattle.line_fans.proofs.FanTurns.{IsLeftCorner, found_turned, left_toward}
use Rattle.line_fans.proofs.FanWhole.{as_cone}
use Rattle.line_fans.proofs.FanSides.{WantsLeft, not_both, beyond_side, beyond_right, Sees, Outcome, sees, goes_left, goes_right, SeesAll, EntersAll, turned_left_sees, between_sides}
use Rattle.line_fans.proofs.SideTurns.{some_length, to_before}
use Rattle.line_fans.proofs.Turns.{left_turn}

pub at_least : (m n : ℤ) → m ≡ n → pos 0 ≤ℤ n → pos 0 ≤ℤ m
at_least m n e h = omega (arith, ints)

pub more_than : (m n : ℤ) → m ≡ n → pos 0 <ℤ n → pos 0 <ℤ m
more_than m n e h = omega (arith, ints)

pub less_than : (m n : ℤ) → m ≡ n → n <ℤ pos 0 → m <ℤ pos 0
less_than m n e h = omega (arith, ints)

pub zero_at_least : (m : ℤ) → m ≡ pos 0 → pos 0 ≤ℤ m
zero_at_least m e = omega (arith, ints)

-- the vector from v to the point beyond it
pub cross_beyond : (e o v : Point) → cross_of e (from_to v (beyond o v)) ≡ cross_of e (from_to o v)
unfolding cross_of
cross_beyond e o v = equal (coordinates (e ∷ o ∷ v ∷ [])) (cross_term (place 0) (from_to_term (place 2) further)) (cross_term (place 0) (from_to_term (place 1) (place 2))) refl
  where
    further : Place
    further = record { x = difference (sum (at 4) (at 4)) (at 2); z = difference (sum (at 5) (at 5)) (at 3) }

pub cross_beyond_left : (e o v : Point) → cross_of (from_to v (beyond o v)) e ≡ cross_of (from_to o v) e
unfolding cross_of
cross_beyond_left e o v = equal (coordinates (e ∷ o ∷ v ∷ [])) (cross_term (from_to_term (place 2) further) (place 0)) (cross_term (from_to_term (place 1) (place 2)) (place 0)) refl
  where
    further : Place
    further = record { x = difference (sum (at 4) (at 4)) (at 2); z = difference (sum (at 5) (at 5)) (at 3) }

pub cross_still : (o v : Point) → cross_of (from_to o v) (from_to o v) ≡ pos 0
unfolding cross_of
cross_still o v = equal (coordinates (o ∷ v ∷ [])) (cross_term (from_to_term (place 0) (place 1)) (from_to_term (place 0) (place 1))) (number (pos 0)) refl

-- ---- a turn to the left

left_corner : (o : Point) (portal next : Portal) → StandsBefore portal next → orient_of o portal.left portal.right <ℤ pos 0 → pos 0 ≤ℤ orient_of o portal.left next.right → IsLeftCorner o portal.left portal.right next
left_corner o portal next before right closed = record {
  other_right = more_than (cross_of (from_to portal.left portal.right) (from_to o portal.left)) (orient_of o portal.right portal.left) (to_before o portal.left portal.right) (exchanged-positive o portal.right portal.left right);
  left_ahead = turned-not_negative portal.left portal.right next.left before.left_ahead;
  right_ahead = turned-not_negative portal.left portal.right next.right before.right_ahead;
  right_left = closed;
  not_inside = left_not_inside portal next before;
  not_right = left_not_right portal next before;
}

left_all : (c : Cone) (portal next : Portal) (more : List Portal) (goal : Point) → IsOpen c portal → c.through_left ≡ true → c.left ≡ portal.left → StandsBefore portal next → EntersAll next more goal
    → orient_of c.root portal.left portal.right <ℤ pos 0 → pos 0 ≤ℤ orient_of c.root portal.left next.right → Sees c portal (next ∷ more) goal
unfolding found_turned
left_all c portal next more goal is through same before enters right closed =
    let corner = left_corner c.root portal next before right closed in
    let entered = enters (c.before ++ c.root ∷ []) portal.left before.left_behind in
    let lengths = some_length (from_to portal.left portal.right) (from_to c.root portal.left) corner.other_right in
    turned_left_sees c portal (next ∷ more) goal is same
    (found_turned c (cone_through (c.before ++ c.root ∷ []) portal.left next) portal.left portal.right portal next more goal (inl (refl, refl))
    (left_over_all portal next c is.narrow through (subst (λ (p : Point). pos 0 ≤ℤ orient_of c.root p next.right) (sym same) closed)) entered.found
    (left_toward c.root portal.left portal.right next entered.found.b corner entered.found.some entered.toward) lengths.0 lengths.1)
    refl

left_open : (c : Cone) (portal next : Portal) → pos 0 <ℤ orient_of next.right next.left portal.left → pos 0 <ℤ orient_of c.root portal.left next.left → orient_of c.root portal.left next.right <ℤ pos 0 → IsOpen (left_part portal next c) next
left_open c portal next behind left right = record {
  narrow = refl;
  behind = behind;
  wide = more_than (orient_of portal.left (beyond c.root portal.left) next.left) (orient_of c.root portal.left next.left) (beyond_side c.root portal.left next.left) left;
  right_of_left = exchanged-negative portal.left next.left next.right (faces portal.left next.right next.left behind);
  left_of_right = more_than (orient_of portal.left (beyond c.root portal.left) next.left) (orient_of c.root portal.left next.left) (beyond_side c.root portal.left next.left) left;
  left_end = inl (refl, refl);
  right_end = inr (refl, less_than (orient_of portal.left (beyond c.root portal.left) next.right) (orient_of c.root portal.left next.right) (beyond_side c.root portal.left next.right) right);
}

left_behind_next : (o : Point) (portal next : Portal) → StandsBefore portal next → pos 0 <ℤ orient_of o portal.left next.left → orient_of o portal.left next.right <ℤ pos 0 → pos 0 <ℤ orient_of next.right next.left portal.left
left_behind_next o portal next before left right = by (not_negative-signs (orient_of next.right next.left portal.left) before.left_behind)
  where
    nowhere : orient_of next.right next.left portal.left ≡ pos 0 → LiesThere portal.left next → ⊥
    nowhere on (inside is) = left_not_inside portal next before is
    nowhere on (at_left same) = (between_sides o portal.left next on left right).0.0 same
    nowhere on (at_right same) = (between_sides o portal.left next on left right).0.1 same
    nowhere on (beside far) = (between_sides o portal.left next on left right).1 far

    by : (orient_of next.right next.left portal.left ≡ pos 0) ⊎ (pos 0 <ℤ orient_of next.right next.left portal.left) → pos 0 <ℤ orient_of next.right next.left portal.left
    by (inr behind) = behind
    by (inl on) = absurd (nowhere on (lies_there portal.left next on))

left_partly : (c : Cone) (portal next : Portal) (more : List Portal) (goal : Point) → IsOpen c portal → c.through_left ≡ true → c.left ≡ portal.left → StandsBefore portal next → SeesAll next more goal
    → orient_of c.root portal.left portal.right <ℤ pos 0 → orient_of c.root portal.left next.right <ℤ pos 0 → pos 0 <ℤ orient_of c.root portal.left next.left → WantsLeft c.root portal.left more goal
    → Sees c portal (next ∷ more) goal
unfolding found_turned orient_of as_cone
left_partly c portal next more goal is through same before all right open_right open_left wants = by (all (left_part portal next c) (left_open c portal next behind open_left open_right))
  where
    behind : pos 0 <ℤ orient_of next.right next.left portal.left
    behind = left_behind_next c.root portal next before open_left open_right

    other_right : pos 0 <ℤ cross_of (from_to portal.left portal.right) (from_to c.root portal.left)
    other_right = more_than (cross_of (from_to portal.left portal.right) (from_to c.root portal.left)) (orient_of c.root portal.right portal.left) (to_before c.root portal.left portal.right) (exchanged-positive c.root portal.right portal.left right)

    by : Outcome (left_part portal next c) next more goal → Sees c portal (next ∷ more) goal
    by (goes_left e wants') = absurd (false≢true (sym e))
    by (goes_right e wants') = absurd (not_both c.root portal.left more goal wants (beyond_right c.root portal.left more goal wants'))
    by (sees s) =
        let lengths = some_length (from_to portal.left portal.right) (from_to c.root portal.left) other_right in
        turned_left_sees c portal (next ∷ more) goal is same
        (found_turned c (settled next (left_part portal next c)) portal.left portal.right portal next more goal (inl (refl, refl))
        (left_over_part portal next c is.narrow through (subst (λ (p : Point). pos 0 <ℤ orient_of c.root p next.left) (sym same) open_left) (subst (λ (p : Point). orient_of c.root p next.right <ℤ pos 0) (sym same) open_right))
        (as_cone (settled next (left_part portal next c)) (left_part portal next c) (c.before ++ c.root ∷ []) portal.left next more goal (settled_behind next (left_part portal next c) behind) s.found)
        (record {
          w = s.found.b;
          some = s.found.some;
          turn = left_turn (from_to c.root portal.left) s.found.b (from_to portal.left portal.right) (from_to portal.left next.left) (from_to portal.left (beyond c.root portal.left)) (record {
            other_right = other_right;
            right_ahead = at_least (cross_of (from_to portal.left portal.right) (from_to portal.left (beyond c.root portal.left))) (cross_of (from_to portal.left portal.right) (from_to c.root portal.left))
                (cross_beyond (from_to portal.left portal.right) c.root portal.left) (positive-weak (cross_of (from_to portal.left portal.right) (from_to c.root portal.left)) other_right);
            left_ahead = turned-not_negative portal.left portal.right next.left before.left_ahead;
            right_left = zero_at_least (cross_of (from_to c.root portal.left) (from_to portal.left (beyond c.root portal.left))) (cross_beyond (from_to c.root portal.left) c.root portal.left ∙ cross_still c.root portal.left);
            wide = more_than (orient_of portal.left (beyond c.root portal.left) next.left) (orient_of c.root portal.left next.left) (beyond_side c.root portal.left next.left) open_left;
            right_of_left = s.right_of_left;
            left_of_right = s.left_of_right;
          }) s.found.some;
          same = inl refl;
        }) lengths.0 lengths.1)
        refl

pub left_turns : (c : Cone) (portal next : Portal) (more : List Portal) (goal : Point) → IsOpen c portal → c.through_left ≡ true → c.left ≡ portal.left → StandsBefore portal next → SeesAll next more goal → EntersAll next more goal
    → WantsLeft c.root c.left (next ∷ more) goal → Sees c portal (next ∷ more) goal
left_turns c portal next more goal is through same before all enters wants = by (subst (λ (p : Point). WantsLeft c.root p (next ∷ more) goal) same wants)
  where
    right : orient_of c.root portal.left portal.right <ℤ pos 0
    right = subst (λ (p : Point). orient_of c.root p portal.right <ℤ pos 0) same is.right_of_left

    by : WantsLeft c.root portal.left (next ∷ more) goal → Sees c portal (next ∷ more) goal
    by (inl closed) = left_all c portal next more goal is through same before enters right closed
    by (inr (open_right, open_left, wants')) = left_partly c portal next more goal is through same before all right open_right open_left wants'
