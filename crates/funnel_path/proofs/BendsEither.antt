-- A bend with corners on both sides, which may turn either way: each next corner elsewhere holds it on one side, and with each next corner at
-- the bend it still may turn either way, or is held.
use Rattle.std.proofs.Common.{◌≡◌, ◌≢◌, ℕ, ◌+◌, ◌≤◌, ◌<◌, ℤ, pos, ◌≤ℤ◌, ◌<ℤ◌, ◌⊎◌, inl, inr, List, length, ap, sym, subst, ◌∙◌, refl, arith}
use Rattle.std.proofs.lemmas.Int.{ints}
use Rattle.std.proofs.lemmas.Bool.{cases_lt}
use Rattle.nav_base.specs.declared.point.Point.{Point}
use Rattle.nav_base.specs.Point.{orient_of}
use Rattle.nav_base.proofs.OrientLaws.{orient_of-end, orient_of-start}
use Rattle.mesh_types.specs.declared.links.Portal.{Portal}
use Rattle.mesh_types.specs.declared.answers.Side.{Side}
use Rattle.mesh_types.specs.declared.answers.Side.TheVariants.{L, R}
use Rattle.mesh_types.specs.declared.answers.Corner.{Corner}
use Rattle.mesh_types.specs.Chains.{IsAhead, IsChain, IsFold, portal_at, end_of, other_end_of}
use Rattle.mesh_types.specs.Bends.{IsHolding, IsStraightOn}
use Rattle.funnel_path.specs.NextCorners.{IsCornerNext, IsGoalNext, IsNear}
use Rattle.funnel_path.specs.PassedOver.{IsInLine, IsInside, LookOpposite}
use Rattle.funnel_path.proofs.SideRules.{zero-at_least, signs}
use Rattle.funnel_path.proofs.PointLaws.{ahead-between, turned-zero}
use Rattle.funnel_path.proofs.LineLaws.{LieOnLine, alike-ahead, between-ahead, in_line-ways, inside_parts}
use Rattle.funnel_path.proofs.FoldLaws.{folds_at_left, folds_at_right}
use Rattle.funnel_path.proofs.HoldingLaws.{holds_either, not_behind}
use Rattle.funnel_path.proofs.ChainLaws.{AreAhead, chain_ahead}
use Rattle.funnel_path.proofs.SightLaws.{IsSeen, seen_through}
use Rattle.funnel_path.proofs.NextLaws.{end_ahead, next_goal, next_step}
use Rattle.funnel_path.proofs.Bends.{FoldsAt, GoesOnEither, TurnsEither, goes_ahead, opposite_side, either_folded, either_held, either_still}

-- the bend lies on the line of the portal that the last corner names
on_portal : (portals : List Portal) (b c : Point) (named : ℕ) → TurnsEither portals b c named → orient_of (portal_at portals named).right (portal_at portals named).left c ≡ pos 0
on_portal portals b c named is = at is.side is.at_end
  where
    portal : Portal
    portal = portal_at portals named

    at : (side : Side) → c ≡ end_of side portal → orient_of portal.right portal.left c ≡ pos 0
    at L e = ap (orient_of portal.right portal.left) e ∙ orient_of-end portal.right portal.left
    at R e = ap (orient_of portal.right portal.left) e ∙ orient_of-start portal.right portal.left

less : (m n : ℤ) → m ≡ pos 0 → pos 0 <ℤ n → m <ℤ n
less m n e h = omega (arith, ints)

most : (m n : ℤ) → m ≤ℤ pos 0 → n ≡ pos 0 → m ≤ℤ n
most m n h e = omega (arith, ints)

below : (m n : ℤ) → m <ℤ pos 0 → n ≡ pos 0 → m <ℤ n
below m n h e = omega (arith, ints)

more : (m n : ℤ) → m ≡ pos 0 → m <ℤ n → pos 0 <ℤ n
more m n e h = omega (arith, ints)

-- a point on the line of the way on that lies ahead of that portal is straight on
straight_on : (portals : List Portal) (b c : Point) (named : ℕ) (q : Point) → TurnsEither portals b c named → IsAhead (portal_at portals named) q → orient_of b c q ≡ pos 0 → q ≢ c → IsStraightOn b c q
straight_on portals b c named q is ahead on_line apart =
    let portal = portal_at portals named in
    not_behind portal.right portal.left b c q (less (orient_of portal.right portal.left c) (orient_of portal.right portal.left b) (on_portal portals b c named is) is.behind)
    (most (orient_of portal.right portal.left q) (orient_of portal.right portal.left c) ahead (on_portal portals b c named is)) on_line apart

-- whatever lies ahead of it, other than the bend, holds it
ahead_holds : (portals : List Portal) (b c : Point) (named : ℕ) (q : Point) → TurnsEither portals b c named → IsAhead (portal_at portals named) q → q ≢ c → IsHolding L b c q ⊎ IsHolding R b c q
ahead_holds portals b c named q is ahead apart =
    holds_either portal.right portal.left b c q (less (orient_of portal.right portal.left c) (orient_of portal.right portal.left b) (on_portal portals b c named is) is.behind)
    (most (orient_of portal.right portal.left q) (orient_of portal.right portal.left c) ahead (on_portal portals b c named is)) apart
  where
    portal : Portal
    portal = portal_at portals named

-- where the bend lies inside the next portal, that one looks the same way or folds back
next_inside : (start : Point) (portals : List Portal) (goal b c : Point) (named : ℕ) → IsChain start portals goal → TurnsEither portals b c named → named + 1 < length portals
    → IsInside c (portal_at portals (named + 1)) → (q : Point) → IsAhead (portal_at portals (named + 1)) q → IsAhead (portal_at portals named) q ⊎ FoldsAt portals named
next_inside start portals goal b c named chain is there inside q ahead =
    elim (in_line-ways first second (chain.wide named is.there) (chain.wide (named + 1) there) in_line) [
      | inl alike ↦ inl (alike-ahead first second q in_line alike ahead)
      | inr opposite ↦ inr (record { next = there; folds = at is.side is.at_end opposite })
    ]
  where
    first : Portal
    first = portal_at portals named

    second : Portal
    second = portal_at portals (named + 1)

    ends : AreAhead first second
    ends = chain_ahead start portals goal named chain there

    line : LieOnLine first.right first.left second.left second.right
    line = between-ahead first.right first.left c second.right second.left (inside_parts c second inside) (on_portal portals b c named is) ends.left ends.right

    in_line : IsInLine first second
    in_line = record { left = turned-zero first.left first.right second.left line.left; right = turned-zero first.left first.right second.right line.right }

    at : (side : Side) → c ≡ end_of side first → LookOpposite first second → IsFold first second
    at L e opposite = folds_at_left first second in_line opposite (subst (λ (p : Point). IsInside p second) e inside)
    at R e opposite = folds_at_right first second in_line opposite (subst (λ (p : Point). IsInside p second) e inside)

-- what is seen from the bend lies ahead of that portal, or the next one folds back
seen_ahead : (start : Point) (portals : List Portal) (goal b c : Point) (named ahead end : ℕ) (q : Point) → IsChain start portals goal → TurnsEither portals b c named → IsSeen c q portals (named + 1) ahead end
    → named < end → IsAhead (portal_at portals named) q ⊎ FoldsAt portals named
seen_ahead start portals goal b c named ahead end q chain is seen from = by (cases_lt (named + 1) end) (cases_lt (named + 1) ahead)
  where
    by : (named + 1 < end) ⊎ (end ≤ named + 1) → (named + 1 < ahead) ⊎ (ahead ≤ named + 1) → IsAhead (portal_at portals named) q ⊎ FoldsAt portals named
    by (inr last) other = inl (seen.last named (omega arith))
    by (inl more) (inl passed) =
        next_inside start portals goal b c named chain is (omega (arith, seen.within)) (seen.passed.inside (named + 1) (omega arith) passed) q
        (seen_through start portals goal c q (named + 1) ahead end (named + 1) chain seen (omega arith) more).to
    by (inl more) (inr beyond) =
        let ends = chain_ahead start portals goal named chain (omega (arith, seen.within)) in
        inl (ahead-between (portal_at portals named).right (portal_at portals named).left c (portal_at portals (named + 1)).right (portal_at portals (named + 1)).left q (seen.between (named + 1) beyond more)
        (seen_through start portals goal c q (named + 1) ahead end (named + 1) chain seen (omega arith) more).to
        (zero-at_least (orient_of (portal_at portals named).right (portal_at portals named).left c) (on_portal portals b c named is)) ends.left ends.right)

-- so it holds the bend
seen_holds : (start : Point) (portals : List Portal) (goal b c : Point) (named ahead end : ℕ) (q : Point) → IsChain start portals goal → TurnsEither portals b c named → IsSeen c q portals (named + 1) ahead end
    → named < end → q ≢ c → (IsHolding L b c q ⊎ IsHolding R b c q) ⊎ FoldsAt portals named
seen_holds start portals goal b c named ahead end q chain is seen from apart =
    elim (seen_ahead start portals goal b c named ahead end q chain is seen from) [
      | inl lies ↦ inl (ahead_holds portals b c named q is lies apart)
      | inr folded ↦ inr folded
    ]

-- a next corner elsewhere holds the bend
pub either_leaves : (start : Point) (portals : List Portal) (goal b c : Point) (named : ℕ) (corner : Corner) → IsChain start portals goal → TurnsEither portals b c named
    → IsCornerNext c portals goal (named + 1) corner → corner.at ≢ c → (IsHolding L b c corner.at ⊎ IsHolding R b c corner.at) ⊎ FoldsAt portals named
either_leaves start portals goal b c named corner chain is next apart =
    let step = next_step start portals goal c (named + 1) corner chain next in
    seen_holds start portals goal b c named step.ahead corner.portal corner.at chain is step.seen (omega (arith, step.from)) apart

-- and so does the goal
pub either_arrives : (start : Point) (portals : List Portal) (goal b c : Point) (named : ℕ) → IsChain start portals goal → TurnsEither portals b c named
    → IsGoalNext c portals goal (named + 1) → goal ≢ c → (IsHolding L b c goal ⊎ IsHolding R b c goal) ⊎ FoldsAt portals named
either_arrives start portals goal b c named chain is next apart =
    let seen = next_goal start portals goal c (named + 1) chain next in
    seen_holds start portals goal b c named seen.0 (length portals) goal chain is seen.1 is.there apart

-- ---- the next corner, at the bend

other_is_end : (side : Side) (portal : Portal) → other_end_of side portal ≡ end_of (opposite_side side) portal
other_is_end L portal = refl
other_is_end R portal = refl

-- the other end of the next corner's portal is seen as well
other_seen : (start : Point) (portals : List Portal) (goal c : Point) (first : ℕ) (corner : Corner) → IsChain start portals goal → IsNear c portals first corner
    → IsSeen c (other_end_of corner.side (portal_at portals corner.portal)) portals first corner.portal corner.portal
other_seen start portals goal c first corner chain close = record {
  within = omega (arith, close.there);
  passed = close.passed;
  between = λ m low high. absurd (omega arith);
  apart = λ h. absurd (omega arith);
  last = λ m next. subst (IsAhead (portal_at portals m)) (sym (other_is_end corner.side (portal_at portals corner.portal))) (end_ahead start portals goal m corner.portal (opposite_side corner.side) chain next close.there);
}

-- at an end of a portal whose other end lies ahead: that end holds the bend, or the bend may turn either way
data AtEnd (portals : List Portal) (b c : Point) (place : ℕ) (side : Side) : Type 0 where
  holds : IsHolding side b c (other_end_of side (portal_at portals place)) → AtEnd portals b c place side
  may_turn : TurnsEither portals b c place → AtEnd portals b c place side

at_end : (portals : List Portal) (b c : Point) (named place : ℕ) (side : Side) → TurnsEither portals b c named → place < length portals → (portal_at portals place).left ≢ (portal_at portals place).right
    → c ≡ end_of side (portal_at portals place) → IsAhead (portal_at portals named) (other_end_of side (portal_at portals place)) → AtEnd portals b c place side
at_end portals b c named place L is inner wide ended ahead = by (signs (orient_of b c portal.right))
  where
    portal : Portal
    portal = portal_at portals place

    on_line : orient_of portal.right portal.left c ≡ pos 0
    on_line = ap (orient_of portal.right portal.left) ended ∙ orient_of-end portal.right portal.left

    left_zero : orient_of b c portal.left ≡ pos 0
    left_zero = ap (λ (p : Point). orient_of b p portal.left) ended ∙ orient_of-end b portal.left

    by : (orient_of b c portal.right <ℤ pos 0) ⊎ ((orient_of b c portal.right ≡ pos 0) ⊎ (pos 0 <ℤ orient_of b c portal.right)) → AtEnd portals b c place L
    by (inr (inr left)) = holds (inr left)
    by (inr (inl straight)) = holds (inl (straight_on portals b c named portal.right is ahead straight (λ e. wide (sym ended ∙ sym e))))
    by (inl right) = may_turn (record {
      side = L;
      there = inner;
      at_end = ended;
      behind = more (orient_of portal.right portal.left c) (orient_of portal.right portal.left b) on_line (goes_ahead b c portal (below (orient_of b c portal.right) (orient_of b c portal.left) right left_zero));
    })
at_end portals b c named place R is inner wide ended ahead = by (signs (orient_of b c portal.left))
  where
    portal : Portal
    portal = portal_at portals place

    on_line : orient_of portal.right portal.left c ≡ pos 0
    on_line = ap (orient_of portal.right portal.left) ended ∙ orient_of-start portal.right portal.left

    right_zero : orient_of b c portal.right ≡ pos 0
    right_zero = ap (λ (p : Point). orient_of b p portal.right) ended ∙ orient_of-end b portal.right

    by : (orient_of b c portal.left <ℤ pos 0) ⊎ ((orient_of b c portal.left ≡ pos 0) ⊎ (pos 0 <ℤ orient_of b c portal.left)) → AtEnd portals b c place R
    by (inl right) = holds (inr right)
    by (inr (inl straight)) = holds (inl (straight_on portals b c named portal.left is ahead straight (λ e. wide (e ∙ ended))))
    by (inr (inr left)) = may_turn (record {
      side = R;
      there = inner;
      at_end = ended;
      behind = more (orient_of portal.right portal.left c) (orient_of portal.right portal.left b) on_line (goes_ahead b c portal (less (orient_of b c portal.right) (orient_of b c portal.left) right_zero left));
    })

-- with a next corner at the bend it still may turn either way, or is held
pub either_goes_on : (start : Point) (portals : List Portal) (goal b c : Point) (named : ℕ) (corner : Corner) → IsChain start portals goal → TurnsEither portals b c named
    → IsNear c portals (named + 1) corner → corner.at ≡ c → GoesOnEither portals b c named corner
either_goes_on start portals goal b c named corner chain is close at_bend =
    by (seen_ahead start portals goal b c named corner.portal corner.portal other chain is (other_seen start portals goal c (named + 1) corner chain close) (omega (arith, close.from)))
  where
    other : Point
    other = other_end_of corner.side (portal_at portals corner.portal)

    after : AtEnd portals b c corner.portal corner.side → GoesOnEither portals b c named corner
    after (holds it) = either_held it
    after (may_turn it) = either_still it

    by : IsAhead (portal_at portals named) other ⊎ FoldsAt portals named → GoesOnEither portals b c named corner
    by (inl ahead) = after (at_end portals b c named corner.portal corner.side is close.there (chain.wide corner.portal close.there) (sym at_bend ∙ close.at_end) ahead)
    by (inr folded) = either_folded folded
