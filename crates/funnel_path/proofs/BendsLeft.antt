-- A bend that turns left: each next corner elsewhere holds it on the left, and with each next corner at the bend it still turns left, or is
-- held, or has corners on both sides.
use Rattle.std.proofs.Common.{◌≡◌, ◌≢◌, ℕ, ◌+◌, ◌-◌, ◌≤◌, ◌<◌, ℤ, pos, ◌≤ℤ◌, ◌<ℤ◌, ◌⊎◌, inl, inr, List, length, ap, sym, subst, ◌∙◌, refl, arith}
use Rattle.std.proofs.lemmas.Int.{ints}
use Rattle.std.proofs.lemmas.Bool.{cases_eq, cases_lt}
use Rattle.nav_base.specs.declared.point.Point.{Point}
use Rattle.nav_base.specs.Point.{orient_of, dot_of, from_to}
use Rattle.nav_base.proofs.OrientLaws.{orient_of-end, orient_of-start}
use Rattle.mesh_types.specs.declared.links.Portal.{Portal}
use Rattle.mesh_types.specs.declared.answers.Side.{Side}
use Rattle.mesh_types.specs.declared.answers.Side.TheVariants.{L, R}
use Rattle.mesh_types.specs.declared.answers.Corner.{Corner}
use Rattle.mesh_types.specs.Chains.{IsAhead, IsChain, portal_at, end_of, other_end_of}
use Rattle.mesh_types.specs.Bends.{IsHolding}
use Rattle.funnel_path.specs.declared.funnel.Funnel.{Funnel}
use Rattle.funnel_path.specs.Corners.{IsNearerEnd}
use Rattle.funnel_path.specs.Looks.{portal_or_goal, GoesThroughAll, IsLook}
use Rattle.funnel_path.specs.PassedOver.{ArePassed, IsBeside, IsInLine, IsInside, LookOpposite}
use Rattle.funnel_path.specs.NextCorners.{IsAheadOf, IsCornerNext, IsGoalNext, IsNear, IsTurnedBack, all_passed, in_wedge, near, through, turned_back}
use Rattle.funnel_path.specs.Closings.{IsCornerThrough, IsFoldedBack, IsLeftTurn, IsRightTurn, folded_back, left_turn, right_turn}
use Rattle.funnel_path.proofs.SideRules.{positive-weak, negative-weak, positive-not_zero, positive-not_below, negative-not_above, zero-both, around-not_above, around-below, around-above, signs}
use Rattle.funnel_path.proofs.PointLaws.{LiesBetweenRays, order_against_walk, turn-second, turn-third, turned-zero}
use Rattle.funnel_path.proofs.LineLaws.{LieOnLine, alike-behind, between-ahead, between-behind, between-not_positive, in_line-ways, inside_parts}
use Rattle.funnel_path.proofs.FoldLaws.{folds_at_left}
use Rattle.funnel_path.proofs.HoldingLaws.{at_left_end, between_left, both_ends, left_of_left, not_behind}
use Rattle.funnel_path.proofs.ChainLaws.{AreAhead, portal_or_goal-end, portal_or_goal-there}
use Rattle.funnel_path.proofs.WedgeLaws.{right_beyond}
use Rattle.funnel_path.proofs.BendLooks.{IsInLook, at_left_ray, at_right_ray, inside_look, look_between, look_last, place_ahead, as_near, nearer_left}
use Rattle.funnel_path.proofs.Bends.{CrossesLeft, FoldsAt, GoesOn, TurnsEither, TurnsLeft, ahead_goes, crosses_left_ahead, crosses_left_end, crosses_left_holds, goes_ahead, stays_folded, stays_held, stays_turning, becomes_either}

-- ---- the portals before the place

-- the portal before the place
before_place : (portals : List Portal) (goal b c : Point) (named place : ℕ) → TurnsLeft portals goal b c named place → CrossesLeft b c (portal_at portals (place - 1))
before_place portals goal b c named place is = is.crosses (place - 1) (omega (arith, is.after)) (omega (arith, is.after))

-- what comes at the place lies ahead of it
next_ahead : (start : Point) (portals : List Portal) (goal b c : Point) (named place : ℕ) → IsChain start portals goal → TurnsLeft portals goal b c named place
    → AreAhead (portal_at portals (place - 1)) (portal_or_goal portals goal place)
next_ahead start portals goal b c named place chain is = place_ahead start portals goal place chain (omega (arith, is.after)) is.within

-- the right end there holds the bend on the left
place_holds : (start : Point) (portals : List Portal) (goal b c : Point) (named place : ℕ) → IsChain start portals goal → TurnsLeft portals goal b c named place
    → (portal_or_goal portals goal place).right ≢ c → IsHolding L b c (portal_or_goal portals goal place).right
place_holds start portals goal b c named place chain is apart =
    crosses_left_holds b c (portal_at portals (place - 1)) (portal_or_goal portals goal place).right (before_place portals goal b c named place is) (next_ahead start portals goal b c named place chain is).right apart is.closes

-- the portal at the place, where it is one
record IsThere (portals : List Portal) (b c : Point) (place : ℕ) : Type 0 where
  ahead : AreAhead (portal_at portals (place - 1)) (portal_at portals place)
  closes : pos 0 ≤ℤ orient_of b c (portal_at portals place).right

there : (start : Point) (portals : List Portal) (goal b c : Point) (named place : ℕ) → IsChain start portals goal → TurnsLeft portals goal b c named place → place < length portals → IsThere portals b c place
there start portals goal b c named place chain is inner = record {
  ahead = subst (AreAhead (portal_at portals (place - 1))) (portal_or_goal-there portals goal place inner) (next_ahead start portals goal b c named place chain is);
  closes = subst (λ (portal : Portal). pos 0 ≤ℤ orient_of b c portal.right) (portal_or_goal-there portals goal place inner) is.closes;
}

-- the goal, where it is that
goal_holds : (start : Point) (portals : List Portal) (goal b c : Point) (named place : ℕ) → IsChain start portals goal → TurnsLeft portals goal b c named place → length portals ≤ place → goal ≢ c → IsHolding L b c goal
goal_holds start portals goal b c named place chain is past apart =
    subst (λ (portal : Portal). portal.right ≢ c → IsHolding L b c portal.right) (portal_or_goal-end portals goal place past) (place_holds start portals goal b c named place chain is) apart

-- ---- the portal at the place

-- whatever lies between the rays to its ends holds the bend on the left
between_holds : (start : Point) (portals : List Portal) (goal b c : Point) (named place : ℕ) (q : Point) → IsChain start portals goal → TurnsLeft portals goal b c named place → place < length portals
    → LiesBetweenRays c (portal_at portals place).right (portal_at portals place).left q → q ≢ c → IsHolding L b c q
between_holds start portals goal b c named place q chain is inner rays apart =
    between_left b c portal.right portal.left q rays (λ e. apart (sym e))
    (crosses_left_holds b c before portal.right crossed ends.ahead.right (λ e. turn-second c portal.right portal.left rays.wide (sym e)) ends.closes)
    (crosses_left_holds b c before portal.left crossed ends.ahead.left (λ e. turn-third c portal.right portal.left rays.wide (sym e)) (positive-weak (orient_of b c portal.left)
    (left_of_left before.right before.left b c portal.right portal.left (crosses_left_ahead b c before crossed) (around-not_above (orient_of before.right before.left portal.right) (orient_of before.right before.left c) ends.ahead.right crossed.reached)
    (around-not_above (orient_of before.right before.left portal.left) (orient_of before.right before.left c) ends.ahead.left crossed.reached) rays.wide ends.closes)))
  where
    portal : Portal
    portal = portal_at portals place

    before : Portal
    before = portal_at portals (place - 1)

    crossed : CrossesLeft b c before
    crossed = before_place portals goal b c named place is

    ends : IsThere portals b c place
    ends = there start portals goal b c named place chain is inner

-- two portals on one line
record IsOpposite (a b : Portal) : Type 0 where
  in_line : IsInLine a b
  ways : LookOpposite a b

-- where the bend lies inside it, it looks back to the portal before it
inside_opposite : (start : Point) (portals : List Portal) (goal b c : Point) (named place : ℕ) → IsChain start portals goal → TurnsLeft portals goal b c named place → place < length portals
    → IsInside c (portal_at portals place) → IsOpposite (portal_at portals (place - 1)) (portal_at portals place)
inside_opposite start portals goal b c named place chain is inner inside = record {
  in_line = in_line;
  ways = elim (in_line-ways before portal (chain.wide (place - 1) (omega (arith, is.after, is.within))) (chain.wide place inner) in_line) [ inl alike ↦ absurd (same alike) | inr opposite ↦ opposite ];
}
  where
    portal : Portal
    portal = portal_at portals place

    before : Portal
    before = portal_at portals (place - 1)

    crossed : CrossesLeft b c before
    crossed = before_place portals goal b c named place is

    ends : IsThere portals b c place
    ends = there start portals goal b c named place chain is inner

    on_line : orient_of before.right before.left c ≡ pos 0
    on_line = zero-both (orient_of before.right before.left c) (between-not_positive before.right before.left c portal.right portal.left (inside_parts c portal inside) ends.ahead.left ends.ahead.right) crossed.reached

    lie : LieOnLine before.right before.left portal.left portal.right
    lie = between-ahead before.right before.left c portal.right portal.left (inside_parts c portal inside) on_line ends.ahead.left ends.ahead.right

    in_line : IsInLine before portal
    in_line = record { left = turned-zero before.left before.right portal.left lie.left; right = turned-zero before.left before.right portal.right lie.right }

    less : (m n : ℤ) → m ≡ pos 0 → m <ℤ n → pos 0 <ℤ n
    less m n e h = omega (arith, ints)

    less' : (m n : ℤ) → m ≡ pos 0 → pos 0 <ℤ n → m <ℤ n
    less' m n e h = omega (arith, ints)

    more : (m n : ℤ) → pos 0 ≤ℤ m → m <ℤ n → pos 0 <ℤ n
    more m n h k = omega (arith, ints)

    same : pos 0 <ℤ dot_of (from_to before.right before.left) (from_to portal.right portal.left) → ⊥
    same alike =
        let behind = alike-behind before portal b (chain.wide (place - 1) (omega (arith, is.after, is.within))) in_line alike
        (less (orient_of before.right before.left c) (orient_of before.right before.left b) on_line (crosses_left_ahead b c before crossed)) in
        let left = more (orient_of b c portal.right) (orient_of b c portal.left) ends.closes
        (ahead_goes b c portal (less' (orient_of portal.right portal.left c) (orient_of portal.right portal.left b) inside.on_line behind)) in
        positive-not_zero (orient_of b c portal.left) left
        (between-behind b c c portal.right portal.left (inside_parts c portal inside) (orient_of-end b c) (positive-weak (orient_of b c portal.left) left) ends.closes).left

-- so where the portals passed over reach it, the portal that the last corner names is folded back on
passed_folds : (start : Point) (portals : List Portal) (goal b c : Point) (named place end : ℕ) → IsChain start portals goal → TurnsLeft portals goal b c named place → ArePassed c portals (named + 1) end
    → place < end → end ≤ length portals → FoldsAt portals named
passed_folds start portals goal b c named place end chain is passed reaches within = by (cases_eq (named + 1) place)
  where
    inside : IsInside c (portal_at portals place)
    inside = passed.inside place (omega (arith, is.after)) reaches

    opposite : IsOpposite (portal_at portals (place - 1)) (portal_at portals place)
    opposite = inside_opposite start portals goal b c named place chain is (omega arith) inside

    apart : (n : ℤ) → pos 0 <ℤ n → n <ℤ pos 0 → ⊥
    apart n h k = omega (arith, ints)

    by : (named + 1 ≡ place) ⊎ (named + 1 ≡ place → ⊥) → FoldsAt portals named
    by (inl next) = record {
      next = omega arith;
      folds = folds_at_left (portal_at portals named) (portal_at portals (named + 1)) (subst (IsInLine (portal_at portals named)) at_place (subst (λ (m : ℕ). IsInLine (portal_at portals m) (portal_at portals place)) at_named opposite.in_line))
          (subst (LookOpposite (portal_at portals named)) at_place (subst (λ (m : ℕ). LookOpposite (portal_at portals m) (portal_at portals place)) at_named opposite.ways))
          (subst (λ (p : Point). IsInside p (portal_at portals (named + 1))) is.at_end (subst (IsInside c) at_place inside));
    }
      where
        at_named : place - 1 ≡ named
        at_named = omega arith

        at_place : portal_at portals place ≡ portal_at portals (named + 1)
        at_place = ap (portal_at portals) (sym next)
    by (inr other) =
        absurd (apart (dot_of (from_to (portal_at portals (place - 1)).right (portal_at portals (place - 1)).left) (from_to (portal_at portals place).right (portal_at portals place).left))
        (subst (λ (m : ℕ). pos 0 <ℤ dot_of (from_to (portal_at portals (place - 1)).right (portal_at portals (place - 1)).left) (from_to (portal_at portals m).right (portal_at portals m).left)) (omega (arith, is.after))
        (passed.alike (place - 1) (omega (arith, is.after)) (omega (arith, is.after)))) opposite.ways)

-- ---- the next corner, elsewhere

-- a point of the wedge through the portal at the place
look_holds : (start : Point) (portals : List Portal) (goal b c : Point) (named place ahead end : ℕ) (q : Point) → IsChain start portals goal → TurnsLeft portals goal b c named place
    → IsInLook c portals ahead end q → ahead ≤ place → place < end → IsHolding L b c q
look_holds start portals goal b c named place ahead end q chain is looked from before =
    between_holds start portals goal b c named place q chain is (omega (arith, looked.look.within))
    (look_between c portals ahead end q place looked from before) looked.apart

left_turn_holds : (start : Point) (portals : List Portal) (goal b c : Point) (named place ahead : ℕ) (corner : Corner) → IsChain start portals goal → TurnsLeft portals goal b c named place
    → IsAheadOf c portals (named + 1) ahead → ahead ≤ place → IsLeftTurn c portals goal ahead corner → IsHolding L b c corner.at
left_turn_holds start portals goal b c named place ahead corner chain is begins from turn =
    subst (λ (k : Corner). IsHolding L b c k.at) (sym turn.is_left) (by (cases_lt wedge.left.portal place))
  where
    wedge : Funnel
    wedge = turn.wedge

    looked : IsInLook c portals ahead turn.place wedge.left.at
    looked = at_left_ray c portals ahead turn.place wedge turn.look

    by : (wedge.left.portal < place) ⊎ (place ≤ wedge.left.portal) → IsHolding L b c wedge.left.at
    by (inl before) =
        let at_end = turn.look.seen.left.at_end in
        subst (IsHolding L b c) (sym at_end)
        (crosses_left_end b c (portal_at portals wedge.left.portal) (is.crosses wedge.left.portal (omega (arith, begins.from, turn.look.seen.left.from)) before) (λ e. looked.apart (at_end ∙ e)))
    by (inr past) = look_holds start portals goal b c named place ahead turn.place wedge.left.at chain is looked from (omega (arith, turn.look.seen.left.before))

folded_back_holds : (start : Point) (portals : List Portal) (goal b c : Point) (named place ahead : ℕ) (corner : Corner) → IsChain start portals goal → TurnsLeft portals goal b c named place
    → IsAheadOf c portals (named + 1) ahead → ahead ≤ place → IsFoldedBack c portals ahead corner → IsHolding L b c corner.at
folded_back_holds start portals goal b c named place ahead corner chain is begins from back =
    subst (IsHolding L b c) (sym back.at_end) (by (cases_lt place corner.portal) (cases_eq corner.portal place))
  where
    portal : Portal
    portal = portal_at portals corner.portal

    looked : IsInLook c portals ahead corner.portal portal.right
    looked = inside_look c portals ahead corner.portal back.wedge portal.right back.look back.right_of_left back.left_of_right

    at_place : corner.portal ≡ place → portal_or_goal portals goal place ≡ portal
    at_place same = ap (portal_or_goal portals goal) (sym same) ∙ portal_or_goal-there portals goal corner.portal back.there

    by : (place < corner.portal) ⊎ (corner.portal ≤ place) → (corner.portal ≡ place) ⊎ (corner.portal ≡ place → ⊥) → IsHolding L b c portal.right
    by (inl past) same = look_holds start portals goal b c named place ahead corner.portal portal.right chain is looked from past
    by (inr before) (inl same) = subst (λ (p : Portal). p.right ≢ c → IsHolding L b c p.right) (at_place same) (place_holds start portals goal b c named place chain is) looked.apart
    by (inr before) (inr other) =
        absurd (negative-not_above (orient_of portal.right portal.left c) back.front (is.crosses corner.portal (omega (arith, begins.from, back.look.some)) (omega arith)).reached)

-- what lies to the left of the way on, ahead of the portal before, is to the left of a right end that the way on leaves to the right
ray_before : (start : Point) (portals : List Portal) (goal b c : Point) (named place ahead end : ℕ) (wedge : Funnel) (x : Point) → TurnsLeft portals goal b c named place
    → named < ahead → IsLook c portals ahead end wedge → end ≤ place → IsAhead (portal_at portals (end - 1)) x → pos 0 ≤ℤ orient_of b c x → pos 0 <ℤ orient_of c wedge.right.at x
ray_before start portals goal b c named place ahead end wedge x is after look before x_ahead left =
    order_against_walk portal.right portal.left b c wedge.right.at x (crosses_left_ahead b c portal (is.crosses (end - 1) (omega (arith, look.some)) (omega (arith, look.some))))
    (right_beyond c wedge portal goes) (around-below (orient_of portal.right portal.left x) (orient_of portal.right portal.left c) x_ahead goes.behind)
    (negative-weak (orient_of b c wedge.right.at) right) left (around-above (orient_of b c wedge.right.at) (orient_of b c x) right left)
  where
    portal : Portal
    portal = portal_at portals (end - 1)

    goes : GoesThroughAll c wedge portal
    goes = look_last c portals ahead end wedge look

    right : orient_of b c wedge.right.at <ℤ pos 0
    right =
        subst (λ (p : Point). orient_of b c p <ℤ pos 0) (sym look.seen.right.at_end)
        (is.crosses wedge.right.portal (omega (arith, look.seen.right.from)) (omega (arith, look.seen.right.before))).right

right_turn_holds : (start : Point) (portals : List Portal) (goal b c : Point) (named place ahead : ℕ) (corner : Corner) → IsChain start portals goal → TurnsLeft portals goal b c named place
    → IsAheadOf c portals (named + 1) ahead → ahead ≤ place → IsRightTurn c portals goal ahead corner → IsHolding L b c corner.at
right_turn_holds start portals goal b c named place ahead corner chain is begins from turn =
    subst (λ (k : Corner). IsHolding L b c k.at) (sym turn.is_right) (by (cases_lt place turn.place) (cases_eq turn.place place))
  where
    wedge : Funnel
    wedge = turn.wedge

    end : ℕ
    end = turn.place

    ends : AreAhead (portal_at portals (end - 1)) (portal_or_goal portals goal end)
    ends = place_ahead start portals goal end chain (omega (arith, turn.look.some)) turn.look.within

    by : (place < turn.place) ⊎ (turn.place ≤ place) → (turn.place ≡ place) ⊎ (turn.place ≡ place → ⊥) → IsHolding L b c wedge.right.at
    by (inl past) same = look_holds start portals goal b c named place ahead turn.place wedge.right.at chain is (at_right_ray c portals ahead turn.place wedge turn.look) from past
    by (inr before) (inl same) =
        absurd (positive-not_below (orient_of c wedge.right.at (portal_or_goal portals goal end).right)
        (ray_before start portals goal b c named place ahead end wedge (portal_or_goal portals goal end).right is (omega (arith, begins.from)) turn.look before ends.right
        (subst (λ (m : ℕ). pos 0 ≤ℤ orient_of b c (portal_or_goal portals goal m).right) (sym same) is.closes)) turn.closed_right)
    by (inr before) (inr other) =
        absurd (positive-not_below (orient_of c wedge.right.at (portal_or_goal portals goal end).left)
        (ray_before start portals goal b c named place ahead end wedge (portal_or_goal portals goal end).left is (omega (arith, begins.from)) turn.look before ends.left
        (subst (λ (portal : Portal). pos 0 ≤ℤ orient_of b c portal.left) (sym (portal_or_goal-there portals goal end (omega (arith, is.within)))) (is.crosses end (omega (arith, begins.from, turn.look.some)) (omega arith)).left)) turn.closed_left)

-- beside a portal before the place the bend is its left end, and that is the corner
record IsNearEnd (portals : List Portal) (c : Point) (corner : Corner) : Type 0 where
  at_bend : corner.at ≡ c
  at_end : c ≡ (portal_at portals corner.portal).left
  sided : corner.side ≡ L

near_end : (start : Point) (portals : List Portal) (goal b c : Point) (named place : ℕ) (corner : Corner) → IsChain start portals goal → TurnsLeft portals goal b c named place
    → IsNear c portals (named + 1) corner → corner.portal < place → IsNearEnd portals c corner
near_end start portals goal b c named place corner chain is close before = record {
  at_bend = close.at_end ∙ ap (λ (side : Side). end_of side portal) sided ∙ sym at_left;
  at_end = at_left;
  sided = sided;
}
  where
    portal : Portal
    portal = portal_at portals corner.portal

    crossed : CrossesLeft b c portal
    crossed = is.crosses corner.portal (omega (arith, close.from)) before

    at_left : c ≡ portal.left
    at_left = at_left_end b c portal.left portal.right close.beside.on_line close.beside.outside crossed.left crossed.right

    sided : corner.side ≡ L
    sided = nearer_left c portal corner.side (chain.wide corner.portal close.there) at_left close.nearer

-- an end of the portal at the place that the bend lies beside, other than the bend, holds it
beside_holds : (start : Point) (portals : List Portal) (goal b c : Point) (named place : ℕ) (side : Side) → IsChain start portals goal → TurnsLeft portals goal b c named place → place < length portals
    → IsBeside c (portal_at portals place) → IsNearerEnd c (portal_at portals place) side → end_of side (portal_at portals place) ≢ c → IsHolding L b c (end_of side (portal_at portals place))
beside_holds start portals goal b c named place L chain is inner beside nearer apart =
    let portal = portal_at portals place in
    let ends = there start portals goal b c named place chain is inner in
    crosses_left_holds b c (portal_at portals (place - 1)) portal.left (before_place portals goal b c named place is) ends.ahead.left apart
    (both_ends b c portal.left portal.right beside.on_line beside.outside (λ e. apart (sym e)) (λ e. apart (sym (as_near c portal.right portal.left e nearer))) ends.closes)
beside_holds start portals goal b c named place R chain is inner beside nearer apart =
    let portal = portal_at portals place in
    let ends = there start portals goal b c named place chain is inner in
    crosses_left_holds b c (portal_at portals (place - 1)) portal.right (before_place portals goal b c named place is) ends.ahead.right apart ends.closes

-- the corner at once at the end of a portal that the bend lies beside
near_holds : (start : Point) (portals : List Portal) (goal b c : Point) (named place : ℕ) (corner : Corner) → IsChain start portals goal → TurnsLeft portals goal b c named place
    → IsNear c portals (named + 1) corner → corner.at ≢ c → IsHolding L b c corner.at ⊎ FoldsAt portals named
near_holds start portals goal b c named place corner chain is close apart = by (cases_lt corner.portal place) (cases_eq corner.portal place)
  where
    by : (corner.portal < place) ⊎ (place ≤ corner.portal) → (corner.portal ≡ place) ⊎ (corner.portal ≡ place → ⊥) → IsHolding L b c corner.at ⊎ FoldsAt portals named
    by (inl before) other = absurd (apart (near_end start portals goal b c named place corner chain is close before).at_bend)
    by (inr past) (inl same) = inl (subst (IsHolding L b c) (sym close.at_end) (subst (λ (m : ℕ). end_of corner.side (portal_at portals m) ≢ c → IsHolding L b c (end_of corner.side (portal_at portals m))) (sym same) at_place (λ e. apart (close.at_end ∙ e))))
      where
        at_place : end_of corner.side (portal_at portals place) ≢ c → IsHolding L b c (end_of corner.side (portal_at portals place))
        at_place away =
            beside_holds start portals goal b c named place corner.side chain is (subst (λ (m : ℕ). m < length portals) same close.there) (subst (λ (m : ℕ). IsBeside c (portal_at portals m)) same close.beside)
            (subst (λ (m : ℕ). IsNearerEnd c (portal_at portals m) corner.side) same close.nearer) away
    by (inr past) (inr other) = inr (passed_folds start portals goal b c named place corner.portal chain is close.passed (omega arith) (omega (arith, close.there)))

turned_back_holds : (start : Point) (portals : List Portal) (goal b c : Point) (named place : ℕ) (corner : Corner) → IsChain start portals goal → TurnsLeft portals goal b c named place
    → IsTurnedBack c portals (named + 1) corner → corner.at ≢ c → IsHolding L b c corner.at ⊎ FoldsAt portals named
turned_back_holds start portals goal b c named place corner chain is back apart =
    elim (cases_lt corner.portal place) [
      | inl before ↦ inl (subst (IsHolding L b c) (sym back.at_end) (crosses_left_end b c (portal_at portals corner.portal) (is.crosses corner.portal (omega (arith, back.from)) before) (λ e. apart (back.at_end ∙ e))))
      | inr past ↦ inr (passed_folds start portals goal b c named place (corner.portal + 1) chain is back.passed (omega arith) (omega (arith, back.there)))
    ]

through_holds : (start : Point) (portals : List Portal) (goal b c : Point) (named place ahead : ℕ) (corner : Corner) → IsChain start portals goal → TurnsLeft portals goal b c named place
    → IsAheadOf c portals (named + 1) ahead → IsCornerThrough c portals goal ahead corner → IsHolding L b c corner.at ⊎ FoldsAt portals named
through_holds start portals goal b c named place ahead corner chain is begins turn =
    elim (cases_lt place ahead) [
      | inl past ↦ inr (passed_folds start portals goal b c named place ahead chain is begins.passed past (omega (arith, begins.there)))
      | inr from ↦ inl (by from turn)
    ]
  where
    by : ahead ≤ place → IsCornerThrough c portals goal ahead corner → IsHolding L b c corner.at
    by from (left_turn it) = left_turn_holds start portals goal b c named place ahead corner chain is begins from it
    by from (folded_back it) = folded_back_holds start portals goal b c named place ahead corner chain is begins from it
    by from (right_turn it) = right_turn_holds start portals goal b c named place ahead corner chain is begins from it

-- a next corner elsewhere holds the bend on the left
pub left_leaves : (start : Point) (portals : List Portal) (goal b c : Point) (named place : ℕ) (corner : Corner) → IsChain start portals goal → TurnsLeft portals goal b c named place
    → IsCornerNext c portals goal (named + 1) corner → corner.at ≢ c → IsHolding L b c corner.at ⊎ FoldsAt portals named
left_leaves start portals goal b c named place corner chain is (near it) apart = near_holds start portals goal b c named place corner chain is it apart
left_leaves start portals goal b c named place corner chain is (turned_back it) apart = turned_back_holds start portals goal b c named place corner chain is it apart
left_leaves start portals goal b c named place corner chain is (through ahead begins it) apart = through_holds start portals goal b c named place ahead corner chain is begins it

-- and so does the goal
pub left_arrives : (start : Point) (portals : List Portal) (goal b c : Point) (named place : ℕ) → IsChain start portals goal → TurnsLeft portals goal b c named place
    → IsGoalNext c portals goal (named + 1) → goal ≢ c → IsHolding L b c goal ⊎ FoldsAt portals named
left_arrives start portals goal b c named place chain is (all_passed passed) apart =
    elim (cases_lt place (length portals)) [
      | inl inner ↦ inr (passed_folds start portals goal b c named place (length portals) chain is passed inner (omega arith))
      | inr past ↦ inl (goal_holds start portals goal b c named place chain is past apart)
    ]
left_arrives start portals goal b c named place chain is (in_wedge ahead begins seen) apart =
    elim (cases_lt place ahead) [
      | inl before ↦ inr (passed_folds start portals goal b c named place ahead chain is begins.passed before (omega (arith, begins.there)))
      | inr from ↦ inl (elim (cases_lt place (length portals)) [
        | inl inner ↦ look_holds start portals goal b c named place ahead (length portals) goal chain is (inside_look c portals ahead (length portals) seen.wedge goal seen.look seen.right_of_left seen.left_of_right) from inner
        | inr past ↦ goal_holds start portals goal b c named place chain is past apart
      ])
    ]

-- ---- the next corner, at the bend

-- at the portal at the place
data AtPlace (portals : List Portal) (b c : Point) (place : ℕ) (side : Side) : Type 0 where
  holds : IsHolding side b c (other_end_of side (portal_at portals place)) → AtPlace portals b c place side
  right_end : side ≡ R → TurnsEither portals b c place → AtPlace portals b c place side

at_place : (start : Point) (portals : List Portal) (goal b c : Point) (named place : ℕ) (side : Side) → IsChain start portals goal → TurnsLeft portals goal b c named place → place < length portals
    → c ≡ end_of side (portal_at portals place) → AtPlace portals b c place side
at_place start portals goal b c named place L chain is inner at_end =
    let portal = portal_at portals place in
    let ends = there start portals goal b c named place chain is inner in
    holds (crosses_left_holds b c (portal_at portals (place - 1)) portal.right (before_place portals goal b c named place is) ends.ahead.right (λ e. chain.wide place inner (sym at_end ∙ sym e)) ends.closes)
at_place start portals goal b c named place R chain is inner at_end = by (signs (orient_of b c portal.left))
  where
    portal : Portal
    portal = portal_at portals place

    before : Portal
    before = portal_at portals (place - 1)

    crossed : CrossesLeft b c before
    crossed = before_place portals goal b c named place is

    ends : IsThere portals b c place
    ends = there start portals goal b c named place chain is inner

    apart : portal.left ≢ c
    apart e = chain.wide place inner (e ∙ at_end)

    right_zero : orient_of b c portal.right ≡ pos 0
    right_zero = ap (λ (p : Point). orient_of b p portal.right) at_end ∙ orient_of-end b portal.right

    on_line : orient_of portal.right portal.left c ≡ pos 0
    on_line = ap (orient_of portal.right portal.left) at_end ∙ orient_of-start portal.right portal.left

    less : (m n : ℤ) → m ≡ pos 0 → pos 0 <ℤ n → m <ℤ n
    less m n e h = omega (arith, ints)

    more : (m n : ℤ) → m ≡ pos 0 → m <ℤ n → pos 0 <ℤ n
    more m n e h = omega (arith, ints)

    by : (orient_of b c portal.left <ℤ pos 0) ⊎ ((orient_of b c portal.left ≡ pos 0) ⊎ (pos 0 <ℤ orient_of b c portal.left)) → AtPlace portals b c place R
    by (inl right) = holds (inr right)
    by (inr (inl straight)) = holds (inl (not_behind before.right before.left b c portal.left (crosses_left_ahead b c before crossed)
        (around-not_above (orient_of before.right before.left portal.left) (orient_of before.right before.left c) ends.ahead.left crossed.reached) straight apart))
    by (inr (inr left)) = right_end refl (record {
      side = R;
      there = inner;
      at_end = at_end;
      behind = more (orient_of portal.right portal.left c) (orient_of portal.right portal.left b) on_line (goes_ahead b c portal (less (orient_of b c portal.right) (orient_of b c portal.left) right_zero left));
    })

-- with a next corner at the bend it still turns left, or is held, or has corners on both sides
pub left_goes_on : (start : Point) (portals : List Portal) (goal b c : Point) (named place : ℕ) (corner : Corner) → IsChain start portals goal → TurnsLeft portals goal b c named place
    → IsNear c portals (named + 1) corner → corner.at ≡ c → GoesOn L portals goal b c named corner
left_goes_on start portals goal b c named place corner chain is close at_bend = by (cases_lt corner.portal place) (cases_eq corner.portal place)
  where
    at_end : c ≡ end_of corner.side (portal_at portals corner.portal)
    at_end = sym at_bend ∙ close.at_end

    after : corner.portal ≡ place → AtPlace portals b c corner.portal corner.side → GoesOn L portals goal b c named corner
    after same (holds it) = stays_held it
    after same (right_end sided it) = becomes_either sided it

    by : (corner.portal < place) ⊎ (place ≤ corner.portal) → (corner.portal ≡ place) ⊎ (corner.portal ≡ place → ⊥) → GoesOn L portals goal b c named corner
    by (inl before) other =
        let ended = near_end start portals goal b c named place corner chain is close before in
        stays_turning place ended.sided (record {
          after = before;
          within = is.within;
          at_end = ended.at_end;
          crosses = λ m low high. is.crosses m (omega (arith, close.from)) high;
          closes = is.closes;
        })
    by (inr past) (inl same) =
        after same (subst (λ (m : ℕ). AtPlace portals b c m corner.side) (sym same)
        (at_place start portals goal b c named place corner.side chain is (subst (λ (m : ℕ). m < length portals) same close.there) (subst (λ (m : ℕ). c ≡ end_of corner.side (portal_at portals m)) same at_end)))
    by (inr past) (inr other) = stays_folded (passed_folds start portals goal b c named place corner.portal chain is close.passed (omega arith) (omega (arith, close.there)))
