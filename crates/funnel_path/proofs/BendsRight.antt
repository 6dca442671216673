-- A bend that turns right: each next corner elsewhere holds it on the right, and with each next corner at the bend it still turns right, or is
-- held, or has corners on both sides.
use Rattle.std.proofs.Common.{◌≡◌, ◌≢◌, ℕ, ◌+◌, ◌-◌, ◌≤◌, ◌<◌, ℤ, pos, ◌≤ℤ◌, ◌<ℤ◌, ◌⊎◌, inl, inr, List, length, ap, sym, subst, ◌∙◌, refl, arith}
use Rattle.std.proofs.lemmas.Int.{ints}
use Rattle.std.proofs.lemmas.Bool.{cases_eq, cases_lt}
use Rattle.nav_base.specs.declared.point.Point.{Point}
use Rattle.nav_base.specs.Point.{orient_of}
use Rattle.nav_base.proofs.OrientLaws.{orient_of-end}
use Rattle.mesh_types.specs.declared.links.Portal.{Portal}
use Rattle.mesh_types.specs.declared.answers.Side.{Side}
use Rattle.mesh_types.specs.declared.answers.Side.TheVariants.{L, R}
use Rattle.mesh_types.specs.declared.answers.Corner.{Corner}
use Rattle.mesh_types.specs.Chains.{IsAhead, IsChain, portal_at, end_of, other_end_of}
use Rattle.mesh_types.specs.Bends.{IsHolding, IsStraightOn}
use Rattle.funnel_path.specs.declared.funnel.Funnel.{Funnel}
use Rattle.funnel_path.specs.Looks.{portal_or_goal, GoesThroughAll, IsLook}
use Rattle.funnel_path.specs.PassedOver.{ArePassed, IsInside}
use Rattle.funnel_path.specs.NextCorners.{IsAheadOf, IsCornerNext, IsGoalNext, IsNear, IsTurnedBack, all_passed, in_wedge, near, through, turned_back}
use Rattle.funnel_path.specs.Closings.{IsCornerThrough, IsFoldedBack, IsLeftTurn, IsRightTurn, folded_back, left_turn, right_turn}
use Rattle.funnel_path.proofs.SideRules.{positive-weak, negative-not_above, not_positive-signs, around-not_above, around-below}
use Rattle.funnel_path.proofs.PointLaws.{LiesBetweenRays, exchanged-negative, order_against_walk, turn-second, turn-third}
use Rattle.funnel_path.proofs.LineLaws.{LieOnLine, between-ahead, inside-left_apart, inside-right_apart, inside_parts, opposite_apart}
use Rattle.funnel_path.proofs.HoldingLaws.{at_right_end, between_right, not_behind, opposite_onward}
use Rattle.funnel_path.proofs.ChainLaws.{AreAhead, portal_or_goal-end, portal_or_goal-there}
use Rattle.funnel_path.proofs.WedgeLaws.{left_beyond}
use Rattle.funnel_path.proofs.BendLooks.{IsInLook, at_left_ray, at_right_ray, inside_look, look_between, look_last, place_ahead, nearer_right}
use Rattle.funnel_path.proofs.Bends.{CrossesRight, FoldsAt, GoesOn, TurnsEither, TurnsRight, crosses_right_ahead, crosses_right_end, crosses_right_holds, goes_ahead, stays_held, stays_turning, becomes_either}

-- ---- the portals before the place

-- the portal before the place
before_place : (portals : List Portal) (goal b c : Point) (named place : ℕ) → TurnsRight portals goal b c named place → CrossesRight b c (portal_at portals (place - 1))
before_place portals goal b c named place is = is.crosses (place - 1) (omega (arith, is.after)) (omega (arith, is.after))

-- what comes at the place lies ahead of it
next_ahead : (start : Point) (portals : List Portal) (goal b c : Point) (named place : ℕ) → IsChain start portals goal → TurnsRight portals goal b c named place
    → AreAhead (portal_at portals (place - 1)) (portal_or_goal portals goal place)
next_ahead start portals goal b c named place chain is = place_ahead start portals goal place chain (omega (arith, is.after)) is.within

-- the portal at the place, where it is one
record IsThere (portals : List Portal) (b c : Point) (place : ℕ) : Type 0 where
  ahead : AreAhead (portal_at portals (place - 1)) (portal_at portals place)
  closes_left : orient_of b c (portal_at portals place).left ≤ℤ pos 0
  closes_right : orient_of b c (portal_at portals place).right ≤ℤ pos 0

there : (start : Point) (portals : List Portal) (goal b c : Point) (named place : ℕ) → IsChain start portals goal → TurnsRight portals goal b c named place → place < length portals → IsThere portals b c place
there start portals goal b c named place chain is inner = record {
  ahead = subst (AreAhead (portal_at portals (place - 1))) (portal_or_goal-there portals goal place inner) (next_ahead start portals goal b c named place chain is);
  closes_left = subst (λ (portal : Portal). orient_of b c portal.left ≤ℤ pos 0) (portal_or_goal-there portals goal place inner) is.closes_left;
  closes_right = subst (λ (portal : Portal). orient_of b c portal.right ≤ℤ pos 0) (portal_or_goal-there portals goal place inner) is.closes_right;
}

-- each of its ends, other than the bend, holds the bend on the right
end_holds : (start : Point) (portals : List Portal) (goal b c : Point) (named place : ℕ) (side : Side) → IsChain start portals goal → TurnsRight portals goal b c named place → place < length portals
    → end_of side (portal_at portals place) ≢ c → IsHolding R b c (end_of side (portal_at portals place))
end_holds start portals goal b c named place L chain is inner apart =
    let ends = there start portals goal b c named place chain is inner in
    crosses_right_holds b c (portal_at portals (place - 1)) (portal_at portals place).left (before_place portals goal b c named place is) ends.ahead.left apart ends.closes_left
end_holds start portals goal b c named place R chain is inner apart =
    let ends = there start portals goal b c named place chain is inner in
    crosses_right_holds b c (portal_at portals (place - 1)) (portal_at portals place).right (before_place portals goal b c named place is) ends.ahead.right apart ends.closes_right

-- the goal, where it comes at the place
goal_holds : (start : Point) (portals : List Portal) (goal b c : Point) (named place : ℕ) → IsChain start portals goal → TurnsRight portals goal b c named place → length portals ≤ place → goal ≢ c → IsHolding R b c goal
goal_holds start portals goal b c named place chain is past apart =
    subst (λ (portal : Portal). portal.right ≢ c → IsHolding R b c portal.right) (portal_or_goal-end portals goal place past)
    (λ away. crosses_right_holds b c (portal_at portals (place - 1)) (portal_or_goal portals goal place).right (before_place portals goal b c named place is) (next_ahead start portals goal b c named place chain is).right away is.closes_right) apart

-- ---- the portal at the place

-- whatever lies between the rays to its ends holds the bend on the right
between_holds : (start : Point) (portals : List Portal) (goal b c : Point) (named place : ℕ) (q : Point) → IsChain start portals goal → TurnsRight portals goal b c named place → place < length portals
    → LiesBetweenRays c (portal_at portals place).right (portal_at portals place).left q → q ≢ c → IsHolding R b c q
between_holds start portals goal b c named place q chain is inner rays apart =
    between_right b c portal.right portal.left q rays (λ e. apart (sym e))
    (end_holds start portals goal b c named place R chain is inner (λ e. turn-second c portal.right portal.left rays.wide (sym e)))
    (end_holds start portals goal b c named place L chain is inner (λ e. turn-third c portal.right portal.left rays.wide (sym e)))
  where
    portal : Portal
    portal = portal_at portals place

-- the bend does not lie inside it
not_inside : (start : Point) (portals : List Portal) (goal b c : Point) (named place : ℕ) → IsChain start portals goal → TurnsRight portals goal b c named place → place < length portals
    → IsInside c (portal_at portals place) → ⊥
not_inside start portals goal b c named place chain is inner inside =
    opposite_onward b c portal.left portal.right inside.between (straight portal.left (inside-left_apart c portal.left portal.right inside.between) line.left ends.ahead.left) (straight portal.right (inside-right_apart c portal.left portal.right inside.between) line.right ends.ahead.right)
  where
    portal : Portal
    portal = portal_at portals place

    before : Portal
    before = portal_at portals (place - 1)

    crossed : CrossesRight b c before
    crossed = before_place portals goal b c named place is

    ends : IsThere portals b c place
    ends = there start portals goal b c named place chain is inner

    line : LieOnLine b c portal.left portal.right
    line = between-ahead b c c portal.right portal.left (inside_parts c portal inside) (orient_of-end b c) ends.closes_left ends.closes_right

    straight : (x : Point) → x ≢ c → orient_of b c x ≡ pos 0 → IsAhead before x → IsStraightOn b c x
    straight x apart on_line ahead =
        not_behind before.right before.left b c x (crosses_right_ahead b c before crossed) (around-not_above (orient_of before.right before.left x) (orient_of before.right before.left c) ahead crossed.reached) on_line apart

-- so the portals passed over do not reach it
passed_before : (start : Point) (portals : List Portal) (goal b c : Point) (named place end : ℕ) → IsChain start portals goal → TurnsRight portals goal b c named place → ArePassed c portals (named + 1) end
    → end ≤ length portals → end ≤ place
passed_before start portals goal b c named place end chain is passed within =
    elim (cases_lt place end) [
      | inl reaches ↦ absurd (not_inside start portals goal b c named place chain is (omega arith) (passed.inside place (omega (arith, is.after)) reaches))
      | inr before ↦ before
    ]

-- ---- the next corner, elsewhere

-- a point of the wedge through the portal at the place
look_holds : (start : Point) (portals : List Portal) (goal b c : Point) (named place ahead end : ℕ) (q : Point) → IsChain start portals goal → TurnsRight portals goal b c named place
    → IsInLook c portals ahead end q → ahead ≤ place → place < end → IsHolding R b c q
look_holds start portals goal b c named place ahead end q chain is looked from before =
    between_holds start portals goal b c named place q chain is (omega (arith, looked.look.within)) (look_between c portals ahead end q place looked from before) looked.apart

right_turn_holds : (start : Point) (portals : List Portal) (goal b c : Point) (named place ahead : ℕ) (corner : Corner) → IsChain start portals goal → TurnsRight portals goal b c named place
    → IsAheadOf c portals (named + 1) ahead → ahead ≤ place → IsRightTurn c portals goal ahead corner → IsHolding R b c corner.at
right_turn_holds start portals goal b c named place ahead corner chain is begins from turn =
    subst (λ (k : Corner). IsHolding R b c k.at) (sym turn.is_right) (by (cases_lt wedge.right.portal place))
  where
    wedge : Funnel
    wedge = turn.wedge

    looked : IsInLook c portals ahead turn.place wedge.right.at
    looked = at_right_ray c portals ahead turn.place wedge turn.look

    by : (wedge.right.portal < place) ⊎ (place ≤ wedge.right.portal) → IsHolding R b c wedge.right.at
    by (inl before) =
        let at_end = turn.look.seen.right.at_end in
        subst (IsHolding R b c) (sym at_end)
        (crosses_right_end b c (portal_at portals wedge.right.portal) (is.crosses wedge.right.portal (omega (arith, begins.from, turn.look.seen.right.from)) before) (λ e. looked.apart (at_end ∙ e)))
    by (inr past) = look_holds start portals goal b c named place ahead turn.place wedge.right.at chain is looked from (omega (arith, turn.look.seen.right.before))

folded_back_holds : (start : Point) (portals : List Portal) (goal b c : Point) (named place ahead : ℕ) (corner : Corner) → IsChain start portals goal → TurnsRight portals goal b c named place
    → IsAheadOf c portals (named + 1) ahead → ahead ≤ place → IsFoldedBack c portals ahead corner → IsHolding R b c corner.at
folded_back_holds start portals goal b c named place ahead corner chain is begins from back =
    subst (IsHolding R b c) (sym back.at_end) (by (cases_lt place corner.portal) (cases_eq corner.portal place))
  where
    portal : Portal
    portal = portal_at portals corner.portal

    looked : IsInLook c portals ahead corner.portal portal.right
    looked = inside_look c portals ahead corner.portal back.wedge portal.right back.look back.right_of_left back.left_of_right

    by : (place < corner.portal) ⊎ (corner.portal ≤ place) → (corner.portal ≡ place) ⊎ (corner.portal ≡ place → ⊥) → IsHolding R b c portal.right
    by (inl past) same = look_holds start portals goal b c named place ahead corner.portal portal.right chain is looked from past
    by (inr before) (inl same) =
        subst (λ (m : ℕ). (portal_at portals m).right ≢ c → IsHolding R b c (portal_at portals m).right) (sym same)
        (end_holds start portals goal b c named place R chain is (subst (λ (m : ℕ). m < length portals) same back.there)) looked.apart
    by (inr before) (inr other) =
        absurd (negative-not_above (orient_of portal.right portal.left c) back.front (is.crosses corner.portal (omega (arith, begins.from, back.look.some)) (omega arith)).reached)

-- what lies to the right of the way on, ahead of the portal before, is to the right of a left end that the way on leaves to the left
ray_before : (portals : List Portal) (goal b c : Point) (named place ahead end : ℕ) (wedge : Funnel) (x : Point) → TurnsRight portals goal b c named place
    → named < ahead → IsLook c portals ahead end wedge → end ≤ place → IsAhead (portal_at portals (end - 1)) x → orient_of b c x ≤ℤ pos 0 → orient_of c wedge.left.at x <ℤ pos 0
ray_before portals goal b c named place ahead end wedge x is after look before x_ahead right =
    exchanged-negative c wedge.left.at x
    (order_against_walk portal.right portal.left b c x wedge.left.at (crosses_right_ahead b c portal (is.crosses (end - 1) (omega (arith, look.some)) (omega (arith, look.some))))
    (around-below (orient_of portal.right portal.left x) (orient_of portal.right portal.left c) x_ahead goes.behind) (left_beyond c wedge portal goes)
    right (positive-weak (orient_of b c wedge.left.at) left) (around-below (orient_of b c x) (orient_of b c wedge.left.at) right left))
  where
    portal : Portal
    portal = portal_at portals (end - 1)

    goes : GoesThroughAll c wedge portal
    goes = look_last c portals ahead end wedge look

    left : pos 0 <ℤ orient_of b c wedge.left.at
    left =
        subst (λ (p : Point). pos 0 <ℤ orient_of b c p) (sym look.seen.left.at_end)
        (is.crosses wedge.left.portal (omega (arith, look.seen.left.from)) (omega (arith, look.seen.left.before))).left

left_turn_holds : (start : Point) (portals : List Portal) (goal b c : Point) (named place ahead : ℕ) (corner : Corner) → IsChain start portals goal → TurnsRight portals goal b c named place
    → IsAheadOf c portals (named + 1) ahead → ahead ≤ place → IsLeftTurn c portals goal ahead corner → IsHolding R b c corner.at
left_turn_holds start portals goal b c named place ahead corner chain is begins from turn =
    subst (λ (k : Corner). IsHolding R b c k.at) (sym turn.is_left) (by (cases_lt place turn.place) (cases_eq turn.place place))
  where
    wedge : Funnel
    wedge = turn.wedge

    end : ℕ
    end = turn.place

    ends : AreAhead (portal_at portals (end - 1)) (portal_or_goal portals goal end)
    ends = place_ahead start portals goal end chain (omega (arith, turn.look.some)) turn.look.within

    closed : end ≤ place → orient_of b c (portal_or_goal portals goal end).right ≤ℤ pos 0 → ⊥
    closed before right =
        negative-not_above (orient_of c wedge.left.at (portal_or_goal portals goal end).right)
        (ray_before portals goal b c named place ahead end wedge (portal_or_goal portals goal end).right is (omega (arith, begins.from)) turn.look before ends.right right) turn.closed

    by : (place < turn.place) ⊎ (turn.place ≤ place) → (turn.place ≡ place) ⊎ (turn.place ≡ place → ⊥) → IsHolding R b c wedge.left.at
    by (inl past) same = look_holds start portals goal b c named place ahead turn.place wedge.left.at chain is (at_left_ray c portals ahead turn.place wedge turn.look) from past
    by (inr before) (inl same) = absurd (closed before (subst (λ (m : ℕ). orient_of b c (portal_or_goal portals goal m).right ≤ℤ pos 0) (sym same) is.closes_right))
    by (inr before) (inr other) =
        absurd (closed before (subst (λ (portal : Portal). orient_of b c portal.right ≤ℤ pos 0) (sym (portal_or_goal-there portals goal end (omega (arith, is.within))))
        (is.crosses end (omega (arith, begins.from, turn.look.some)) (omega arith)).right))

-- beside a portal before the place the bend is its right end, and that is the corner
record IsNearEnd (portals : List Portal) (c : Point) (corner : Corner) : Type 0 where
  at_bend : corner.at ≡ c
  at_end : c ≡ (portal_at portals corner.portal).right
  sided : corner.side ≡ R

near_end : (start : Point) (portals : List Portal) (goal b c : Point) (named place : ℕ) (corner : Corner) → IsChain start portals goal → TurnsRight portals goal b c named place
    → IsNear c portals (named + 1) corner → corner.portal < place → IsNearEnd portals c corner
near_end start portals goal b c named place corner chain is close before = record {
  at_bend = close.at_end ∙ ap (λ (side : Side). end_of side portal) sided ∙ sym at_right;
  at_end = at_right;
  sided = sided;
}
  where
    portal : Portal
    portal = portal_at portals corner.portal

    crossed : CrossesRight b c portal
    crossed = is.crosses corner.portal (omega (arith, close.from)) before

    at_right : c ≡ portal.right
    at_right = at_right_end b c portal.left portal.right close.beside.on_line close.beside.outside crossed.left crossed.right

    sided : corner.side ≡ R
    sided = nearer_right c portal corner.side (chain.wide corner.portal close.there) at_right close.nearer

-- the corner at once at the end of a portal that the bend lies beside
near_holds : (start : Point) (portals : List Portal) (goal b c : Point) (named place : ℕ) (corner : Corner) → IsChain start portals goal → TurnsRight portals goal b c named place
    → IsNear c portals (named + 1) corner → corner.at ≢ c → IsHolding R b c corner.at
near_holds start portals goal b c named place corner chain is close apart = by (cases_lt corner.portal place)
  where
    by : (corner.portal < place) ⊎ (place ≤ corner.portal) → IsHolding R b c corner.at
    by (inl before) = absurd (apart (near_end start portals goal b c named place corner chain is close before).at_bend)
    by (inr past) =
        let upto = passed_before start portals goal b c named place corner.portal chain is close.passed (omega (arith, close.there)) in
        subst (IsHolding R b c) (sym close.at_end) (at_place (both corner.portal past upto) (λ e. apart (close.at_end ∙ e)))
      where
        both : (n : ℕ) → place ≤ n → n ≤ place → n ≡ place
        both n h k = omega arith

        at_place : corner.portal ≡ place → end_of corner.side (portal_at portals corner.portal) ≢ c → IsHolding R b c (end_of corner.side (portal_at portals corner.portal))
        at_place same =
            subst (λ (m : ℕ). end_of corner.side (portal_at portals m) ≢ c → IsHolding R b c (end_of corner.side (portal_at portals m))) (sym same)
            (end_holds start portals goal b c named place corner.side chain is (subst (λ (m : ℕ). m < length portals) same close.there))

-- the bend does not lie inside two portals of which the second folds back
turned_back_not : (start : Point) (portals : List Portal) (goal b c : Point) (named place : ℕ) (corner : Corner) → IsChain start portals goal → TurnsRight portals goal b c named place
    → IsTurnedBack c portals (named + 1) corner → ⊥
turned_back_not start portals goal b c named place corner chain is back = by (cases_lt (corner.portal + 1) place) (cases_eq (corner.portal + 1) place)
  where
    first : Portal
    first = portal_at portals corner.portal

    second : Portal
    second = portal_at portals (corner.portal + 1)

    more : (m n : ℤ) → m ≡ pos 0 → m <ℤ n → pos 0 <ℤ n
    more m n e h = omega (arith, ints)

    by : (corner.portal + 1 < place) ⊎ (place ≤ corner.portal + 1) → (corner.portal + 1 ≡ place) ⊎ (corner.portal + 1 ≡ place → ⊥) → ⊥
    by (inl before) other =
        opposite_apart first second b (record { left = back.folds.left_on_line; right = back.folds.right_on_line }) back.folds.opposite
        (more (orient_of first.right first.left c) (orient_of first.right first.left b) (back.passed.inside corner.portal back.from (omega arith)).on_line (crosses_right_ahead b c first (is.crosses corner.portal (omega (arith, back.from)) (omega arith))))
        (more (orient_of second.right second.left c) (orient_of second.right second.left b) back.inside.on_line (crosses_right_ahead b c second (is.crosses (corner.portal + 1) (omega (arith, back.from)) before)))
    by (inr past) (inl same) =
        not_inside start portals goal b c named place chain is (subst (λ (m : ℕ). m < length portals) same back.there) (subst (λ (m : ℕ). IsInside c (portal_at portals m)) same back.inside)
    by (inr past) (inr other) = absurd (below (passed_before start portals goal b c named place (corner.portal + 1) chain is back.passed (omega (arith, back.there))))
      where
        below : corner.portal + 1 ≤ place → ⊥
        below h = omega (arith, past, other)

through_holds : (start : Point) (portals : List Portal) (goal b c : Point) (named place ahead : ℕ) (corner : Corner) → IsChain start portals goal → TurnsRight portals goal b c named place
    → IsAheadOf c portals (named + 1) ahead → IsCornerThrough c portals goal ahead corner → IsHolding R b c corner.at
through_holds start portals goal b c named place ahead corner chain is begins turn =
    by (passed_before start portals goal b c named place ahead chain is begins.passed (omega (arith, begins.there))) turn
  where
    by : ahead ≤ place → IsCornerThrough c portals goal ahead corner → IsHolding R b c corner.at
    by from (left_turn it) = left_turn_holds start portals goal b c named place ahead corner chain is begins from it
    by from (folded_back it) = folded_back_holds start portals goal b c named place ahead corner chain is begins from it
    by from (right_turn it) = right_turn_holds start portals goal b c named place ahead corner chain is begins from it

-- a next corner elsewhere holds the bend on the right
pub right_leaves : (start : Point) (portals : List Portal) (goal b c : Point) (named place : ℕ) (corner : Corner) → IsChain start portals goal → TurnsRight portals goal b c named place
    → IsCornerNext c portals goal (named + 1) corner → corner.at ≢ c → IsHolding R b c corner.at ⊎ FoldsAt portals named
right_leaves start portals goal b c named place corner chain is (near it) apart = inl (near_holds start portals goal b c named place corner chain is it apart)
right_leaves start portals goal b c named place corner chain is (turned_back it) apart = absurd (turned_back_not start portals goal b c named place corner chain is it)
right_leaves start portals goal b c named place corner chain is (through ahead begins it) apart = inl (through_holds start portals goal b c named place ahead corner chain is begins it)

-- and so does the goal
pub right_arrives : (start : Point) (portals : List Portal) (goal b c : Point) (named place : ℕ) → IsChain start portals goal → TurnsRight portals goal b c named place
    → IsGoalNext c portals goal (named + 1) → goal ≢ c → IsHolding R b c goal ⊎ FoldsAt portals named
right_arrives start portals goal b c named place chain is (all_passed passed) apart =
    inl (goal_holds start portals goal b c named place chain is (passed_before start portals goal b c named place (length portals) chain is passed (omega arith)) apart)
right_arrives start portals goal b c named place chain is (in_wedge ahead begins seen) apart =
    let from = passed_before start portals goal b c named place ahead chain is begins.passed (omega (arith, begins.there)) in
    inl (elim (cases_lt place (length portals)) [
      | inl inner ↦ look_holds start portals goal b c named place ahead (length portals) goal chain is (inside_look c portals ahead (length portals) seen.wedge goal seen.look seen.right_of_left seen.left_of_right) from inner
      | inr past ↦ goal_holds start portals goal b c named place chain is past apart
    ])

-- ---- the next corner, at the bend

-- at the portal at the place
data AtPlace (portals : List Portal) (b c : Point) (place : ℕ) (side : Side) : Type 0 where
  holds : IsHolding side b c (other_end_of side (portal_at portals place)) → AtPlace portals b c place side
  left_end : side ≡ L → TurnsEither portals b c place → AtPlace portals b c place side

at_place : (start : Point) (portals : List Portal) (goal b c : Point) (named place : ℕ) (side : Side) → IsChain start portals goal → TurnsRight portals goal b c named place → place < length portals
    → c ≡ end_of side (portal_at portals place) → AtPlace portals b c place side
at_place start portals goal b c named place R chain is inner at_end = holds (end_holds start portals goal b c named place L chain is inner (λ e. chain.wide place inner (e ∙ at_end)))
at_place start portals goal b c named place L chain is inner at_end = by (not_positive-signs (orient_of b c portal.right) ends.closes_right)
  where
    portal : Portal
    portal = portal_at portals place

    before : Portal
    before = portal_at portals (place - 1)

    crossed : CrossesRight b c before
    crossed = before_place portals goal b c named place is

    ends : IsThere portals b c place
    ends = there start portals goal b c named place chain is inner

    apart : portal.right ≢ c
    apart e = chain.wide place inner (sym at_end ∙ sym e)

    left_zero : orient_of b c portal.left ≡ pos 0
    left_zero = ap (λ (p : Point). orient_of b p portal.left) at_end ∙ orient_of-end b portal.left

    on_line : orient_of portal.right portal.left c ≡ pos 0
    on_line = ap (orient_of portal.right portal.left) at_end ∙ orient_of-end portal.right portal.left

    less : (m n : ℤ) → m <ℤ pos 0 → n ≡ pos 0 → m <ℤ n
    less m n h e = omega (arith, ints)

    more : (m n : ℤ) → m ≡ pos 0 → m <ℤ n → pos 0 <ℤ n
    more m n e h = omega (arith, ints)

    by : (orient_of b c portal.right ≡ pos 0) ⊎ (orient_of b c portal.right <ℤ pos 0) → AtPlace portals b c place L
    by (inl straight) = holds (inl (not_behind before.right before.left b c portal.right (crosses_right_ahead b c before crossed)
        (around-not_above (orient_of before.right before.left portal.right) (orient_of before.right before.left c) ends.ahead.right crossed.reached) straight apart))
    by (inr right) = left_end refl (record {
      side = L;
      there = inner;
      at_end = at_end;
      behind = more (orient_of portal.right portal.left c) (orient_of portal.right portal.left b) on_line (goes_ahead b c portal (less (orient_of b c portal.right) (orient_of b c portal.left) right left_zero));
    })

-- with a next corner at the bend it still turns right, or is held, or has corners on both sides
pub right_goes_on : (start : Point) (portals : List Portal) (goal b c : Point) (named place : ℕ) (corner : Corner) → IsChain start portals goal → TurnsRight portals goal b c named place
    → IsNear c portals (named + 1) corner → corner.at ≡ c → GoesOn R portals goal b c named corner
right_goes_on start portals goal b c named place corner chain is close at_bend = by (cases_lt corner.portal place)
  where
    at_end : c ≡ end_of corner.side (portal_at portals corner.portal)
    at_end = sym at_bend ∙ close.at_end

    after : corner.portal ≡ place → AtPlace portals b c corner.portal corner.side → GoesOn R portals goal b c named corner
    after same (holds it) = stays_held it
    after same (left_end sided it) = becomes_either sided it

    both : (n : ℕ) → place ≤ n → n ≤ place → n ≡ place
    both n h k = omega arith

    by : (corner.portal < place) ⊎ (place ≤ corner.portal) → GoesOn R portals goal b c named corner
    by (inl before) =
        let ended = near_end start portals goal b c named place corner chain is close before in
        stays_turning place ended.sided (record {
          after = before;
          within = is.within;
          at_end = ended.at_end;
          crosses = λ m low high. is.crosses m (omega (arith, close.from)) high;
          closes_left = is.closes_left;
          closes_right = is.closes_right;
        })
    by (inr past) =
        let same = both corner.portal past (passed_before start portals goal b c named place corner.portal chain is close.passed (omega (arith, close.there))) in
        after same (subst (λ (m : ℕ). AtPlace portals b c m corner.side) (sym same)
        (at_place start portals goal b c named place corner.side chain is (subst (λ (m : ℕ). m < length portals) same close.there) (subst (λ (m : ℕ). c ≡ end_of corner.side (portal_at portals m)) same at_end)))
