-- The last leg of a line that a fan tells: round an end of the last portal, or straight on.
use Rattle.std.proofs.Common.{◌≡◌, ℕ, ◌<◌, true, false, ℤ, pos, ◌≤ℤ◌, ◌<ℤ◌, [], ◌∷◌, ◌++◌, refl, sym, subst, inl, inr, arith}
use Rattle.std.specs.Prelude.{not, if◌then◌else◌, Some, None, ◌&&◌, ◌||◌}
use Rattle.std.specs.Int.Signed.{le_z}
use Rattle.std.proofs.lemmas.Int.{ints}
use Rattle.nav_base.specs.declared.point.Point.{Point}
use Rattle.nav_base.specs.Point.{from_to, cross_of, orient_of}
use Rattle.nav_base.specs.Deviation.{square_of}
use Rattle.mesh_types.specs.declared.links.Portal.{Portal}
use Rattle.mesh_types.specs.Chains.{IsAhead}
use Rattle.funnel_path.proofs.SideRules.{positive-weak}
use Rattle.funnel_path.proofs.PointLaws.{exchanged-not_negative, exchanged-positive, turned-not_negative}
use Rattle.line_fans.specs.Fans.{Cone, lowered_of, down_of, way_by}
use Rattle.line_fans.proofs.FanLaws.{at_most, not_at_most, down_within, fan_end, lowered_of-more, lowered_of-last}
use Rattle.line_fans.proofs.FanCones.{IsOpen}
use Rattle.line_fans.proofs.FanTurns.{Found, along-itself, held_turn}
use Rattle.line_fans.proofs.FanWhole.{some_between}
use Rattle.line_fans.proofs.FanSides.{Sees, turned_left_sees, turned_right_sees}
use Rattle.line_fans.proofs.SideTurns.{right_turn_of, some_length, to_before, from_before}
use Rattle.line_fans.proofs.Turns.{IsTurn, turn_of}
use Rattle.line_fans.proofs.HeldLines.{IsHeld, AreEnds, arrives, passes}
use Rattle.line_fans.proofs.LeftTurns.{more_than}
use Rattle.line_fans.proofs.RightTurns.{turned}

arrives_from : (v goal : Point) (portal : Portal) → IsHeld goal v (from_to v goal) (portal ∷ []) (lowered_of (v ∷ goal ∷ []))
arrives_from v goal portal =
    subst (λ (n : ℕ). IsHeld goal v (from_to v goal) (portal ∷ []) n) (sym (lowered_of-last v goal))
    (passes v (from_to v goal) portal [] (down_of v goal) (arrives v (from_to v goal) (down_of v goal) (along-itself (from_to v goal)) (down_within v goal)))

-- the way round an end of the last portal
end_turned : (c : Cone) (portal : Portal) (goal v other : Point) → AreEnds portal v other → way_by portal c goal ≡ Some (c.before ++ c.root ∷ v ∷ goal ∷ []) → IsTurn (from_to c.root v) (from_to v goal) (from_to v other)
    → 0 < square_of (from_to v goal) → 0 < square_of (from_to v other) → 0 < square_of (from_to c.root v) → Found c c.before c.root portal [] goal
end_turned c portal goal v other ends told turn some apart far = record {
  last = c;
  of_fan = fan_end portal c;
  points = v ∷ goal ∷ [];
  told = told;
  b = from_to c.root v;
  some = far;
  held = subst (λ (n : ℕ). IsHeld goal c.root (from_to c.root v) (portal ∷ []) n) (sym (lowered_of-more c.root v (goal ∷ [])))
      (held_turn goal c.root v other (from_to v goal) portal [] (lowered_of (v ∷ goal ∷ [])) ends turn some apart (arrives_from v goal portal));
}

pub left_end : (c : Cone) (portal : Portal) (goal : Point) → IsOpen c portal → IsAhead portal goal → c.through_left ≡ true → c.left ≡ portal.left → pos 0 <ℤ orient_of c.root c.left goal → Sees c portal [] goal
unfolding end_turned orient_of
left_end c portal goal is ahead through same wants =
    turned_left_sees c portal [] goal is same
    (end_turned c portal goal portal.left portal.right (inl (refl, refl)) told
    (turn_of (from_to c.root portal.left) (from_to portal.left goal) (from_to portal.left portal.right) other_right (positive-weak (cross_of (from_to c.root portal.left) (from_to portal.left goal)) left)
    (turned-not_negative portal.left portal.right goal ahead) turning.1) turning.1 lengths.0 lengths.1)
    refl
  where
    beyond_left_ray : le_z (orient_of c.root c.left goal) (pos 0) ≡ false
    beyond_left_ray = not_at_most (orient_of c.root c.left goal) (pos 0) wants

    told : way_by portal c goal ≡ Some (c.before ++ c.root ∷ portal.left ∷ goal ∷ [])
    told = λ i.
        if is.narrow i || (beyond_left_ray i && le_z (pos 0) (orient_of c.root c.right goal))
        then Some (c.before ++ c.root ∷ goal ∷ [])
        else (if not (beyond_left_ray i)
        then (if through i then Some (c.before ++ c.root ∷ portal.left ∷ goal ∷ []) else None)
        else (if c.through_right then Some (c.before ++ c.root ∷ portal.right ∷ goal ∷ []) else None))

    right : orient_of c.root portal.left portal.right <ℤ pos 0
    right = subst (λ (p : Point). orient_of c.root p portal.right <ℤ pos 0) same is.right_of_left

    other_right : pos 0 <ℤ cross_of (from_to portal.left portal.right) (from_to c.root portal.left)
    other_right = more_than (cross_of (from_to portal.left portal.right) (from_to c.root portal.left)) (orient_of c.root portal.right portal.left) (to_before c.root portal.left portal.right) (exchanged-positive c.root portal.right portal.left right)

    left : pos 0 <ℤ cross_of (from_to c.root portal.left) (from_to portal.left goal)
    left = more_than (cross_of (from_to c.root portal.left) (from_to portal.left goal)) (orient_of c.root portal.left goal) (from_before c.root portal.left goal) (subst (λ (p : Point). pos 0 <ℤ orient_of c.root p goal) same wants)

    lengths : (0 < square_of (from_to portal.left portal.right)) × (0 < square_of (from_to c.root portal.left))
    lengths = some_length (from_to portal.left portal.right) (from_to c.root portal.left) other_right

    turning : (0 < square_of (from_to c.root portal.left)) × (0 < square_of (from_to portal.left goal))
    turning = some_length (from_to c.root portal.left) (from_to portal.left goal) left

pub right_end : (c : Cone) (portal : Portal) (goal : Point) → IsOpen c portal → IsAhead portal goal → c.through_right ≡ true → c.right ≡ portal.right → orient_of c.root c.left goal ≤ℤ pos 0
    → orient_of c.root c.right goal <ℤ pos 0 → Sees c portal [] goal
unfolding end_turned orient_of
right_end c portal goal is ahead through same inside_left wants =
    turned_right_sees c portal [] goal is same
    (end_turned c portal goal portal.right portal.left (inr (refl, refl)) told
    (right_turn_of (from_to c.root portal.right) (from_to portal.right goal) (from_to portal.right portal.left) other_left (positive-weak (cross_of (from_to portal.right goal) (from_to c.root portal.right)) right)
    (turned (from_to portal.right portal.left) (from_to portal.right goal) ahead) turning.0) turning.0 lengths.1 lengths.0)
    refl
  where
    within_left_ray : le_z (orient_of c.root c.left goal) (pos 0) ≡ true
    within_left_ray = at_most (orient_of c.root c.left goal) (pos 0) inside_left

    beyond_right_ray : le_z (pos 0) (orient_of c.root c.right goal) ≡ false
    beyond_right_ray = not_at_most (pos 0) (orient_of c.root c.right goal) wants

    told : way_by portal c goal ≡ Some (c.before ++ c.root ∷ portal.right ∷ goal ∷ [])
    told = λ i.
        if is.narrow i || (within_left_ray i && beyond_right_ray i)
        then Some (c.before ++ c.root ∷ goal ∷ [])
        else (if not (within_left_ray i)
        then (if c.through_left then Some (c.before ++ c.root ∷ portal.left ∷ goal ∷ []) else None)
        else (if through i then Some (c.before ++ c.root ∷ portal.right ∷ goal ∷ []) else None))

    other_left : pos 0 <ℤ cross_of (from_to c.root portal.right) (from_to portal.right portal.left)
    other_left = more_than (cross_of (from_to c.root portal.right) (from_to portal.right portal.left)) (orient_of c.root portal.right portal.left) (from_before c.root portal.right portal.left)
        (subst (λ (p : Point). pos 0 <ℤ orient_of c.root p portal.left) same is.left_of_right)

    right : pos 0 <ℤ cross_of (from_to portal.right goal) (from_to c.root portal.right)
    right = more_than (cross_of (from_to portal.right goal) (from_to c.root portal.right)) (orient_of c.root goal portal.right) (to_before c.root portal.right goal)
        (exchanged-positive c.root goal portal.right (subst (λ (p : Point). orient_of c.root p goal <ℤ pos 0) same wants))

    lengths : (0 < square_of (from_to c.root portal.right)) × (0 < square_of (from_to portal.right portal.left))
    lengths = some_length (from_to c.root portal.right) (from_to portal.right portal.left) other_left

    turning : (0 < square_of (from_to portal.right goal)) × (0 < square_of (from_to c.root portal.right))
    turning = some_length (from_to portal.right goal) (from_to c.root portal.right) right

pub straight_end : (c : Cone) (portal : Portal) (goal : Point) → IsOpen c portal → IsAhead portal goal → orient_of c.root c.left goal ≤ℤ pos 0 → pos 0 ≤ℤ orient_of c.root c.right goal → Sees c portal [] goal
unfolding orient_of
straight_end c portal goal is ahead inside_left inside_right = record {
  found = record {
    last = c;
    of_fan = fan_end portal c;
    points = goal ∷ [];
    told = λ i.
        if is.narrow i || (at_most (orient_of c.root c.left goal) (pos 0) inside_left i && at_most (pos 0) (orient_of c.root c.right goal) inside_right i)
        then Some (c.before ++ c.root ∷ goal ∷ [])
        else (if not (le_z (orient_of c.root c.left goal) (pos 0))
        then (if c.through_left then Some (c.before ++ c.root ∷ portal.left ∷ goal ∷ []) else None)
        else (if c.through_right then Some (c.before ++ c.root ∷ portal.right ∷ goal ∷ []) else None));
    b = from_to c.root goal;
    some = some_between c.root goal (λ e. apart (orient_of portal.right portal.left c.root) is.behind (subst (λ (p : Point). orient_of portal.right portal.left p ≤ℤ pos 0) (sym e) ahead));
    held = arrives_from c.root goal portal;
  };
  right_of_left = exchanged-not_negative c.root goal c.left inside_left;
  left_of_right = inside_right;
}
  where
    apart : (n : ℤ) → pos 0 <ℤ n → n ≤ℤ pos 0 → ⊥
    apart n h k = omega (arith, ints)
