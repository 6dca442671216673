-- A corner away from the one before begins a bend: it is held by the other end of its portal, or its portal is folded back on, or it turns to
-- the corner's side.
use Rattle.std.proofs.Common.{◌≡◌, ◌≢◌, ℕ, zero, suc, ◌+◌, ◌-◌, ◌≤◌, ◌<◌, ℤ, pos, ◌≤ℤ◌, ◌<ℤ◌, inl, inr, List, ap, sym, subst, ◌∙◌, arith}
use Rattle.nav_base.specs.declared.point.Point.{Point}
use Rattle.nav_base.specs.Point.{orient_of, from_to}
use Rattle.nav_base.proofs.OrientLaws.{orient_of-end, orient_of-start, orient_of-rotated, dot_of-exchanged}
use Rattle.mesh_types.specs.declared.links.Portal.{Portal}
use Rattle.mesh_types.specs.declared.answers.Side.{Side}
use Rattle.mesh_types.specs.declared.answers.Side.TheVariants.{L, R}
use Rattle.mesh_types.specs.declared.answers.Corner.{Corner}
use Rattle.mesh_types.specs.Chains.{IsBehind, IsChain, portal_at, end_of, other_end_of}
use Rattle.mesh_types.specs.Bends.{IsHolding}
use Rattle.funnel_path.specs.declared.funnel.Funnel.{Funnel}
use Rattle.funnel_path.specs.Corners.{IsNearerEnd}
use Rattle.funnel_path.specs.PassedOver.{IsBeside}
use Rattle.funnel_path.specs.Looks.{IsEndFrom}
use Rattle.funnel_path.specs.NextCorners.{IsCornerNext, IsNear, near, through, turned_back}
use Rattle.funnel_path.specs.Closings.{IsCornerThrough, IsFoldedBack, IsLeftTurn, IsRightTurn, folded_back, left_turn, right_turn}
use Rattle.funnel_path.proofs.SideRules.{positive-weak, zero-at_least}
use Rattle.funnel_path.proofs.PointLaws.{behind-between, exchanged-zero}
use Rattle.funnel_path.proofs.HoldingLaws.{farther_end}
use Rattle.funnel_path.proofs.ChainLaws.{AreBehind, chain_behind}
use Rattle.funnel_path.proofs.BendLooks.{IsInLook, at_left_ray, at_right_ray, look_between}
use Rattle.funnel_path.proofs.Bends.{FoldsAt, Turns, TurnsLeft, TurnsRight}

-- what is known of a bend at its first corner
pub data Begins (portals : List Portal) (goal b : Point) (corner : Corner) : Type 0 where
  begins_folded : FoldsAt portals corner.portal → Begins portals goal b corner
  begins_held : IsHolding corner.side b corner.at (other_end_of corner.side (portal_at portals corner.portal)) → Begins portals goal b corner
  begins_turning : (place : ℕ) → Turns corner.side portals goal b corner.at corner.portal place → Begins portals goal b corner

-- ---- the wedge's corners

-- an end of a portal in the wedge lies behind that portal and those after it that the wedge goes through
reached : (start : Point) (portals : List Portal) (goal b q : Point) (ahead place : ℕ) → IsChain start portals goal → IsInLook b portals ahead place q → (named d : ℕ) → ahead ≤ named → named + d < place
    → IsBehind (portal_at portals named) q → IsBehind (portal_at portals (named + d)) q
reached start portals goal b q ahead place chain looked named zero from before behind = subst (λ (m : ℕ). IsBehind (portal_at portals m) q) (omega arith) behind
reached start portals goal b q ahead place chain looked named (suc d) from before behind =
    subst (λ (n : ℕ). IsBehind (portal_at portals n) q) (omega arith)
    (behind-between (portal_at portals (m + 1)).right (portal_at portals (m + 1)).left b (portal_at portals m).right (portal_at portals m).left q
    (look_between b portals ahead place q m looked (omega arith) (omega arith)) (reached start portals goal b q ahead place chain looked named d from (omega arith) behind)
    (positive-weak (orient_of (portal_at portals (m + 1)).right (portal_at portals (m + 1)).left b) (looked.look.seen.through (m + 1) (omega arith) (omega arith)).behind) ends.left ends.right)
  where
    m : ℕ
    m = named + d

    ends : AreBehind (portal_at portals (m + 1)) (portal_at portals m)
    ends = chain_behind start portals goal m chain (omega (arith, looked.look.within))

reached_at : (start : Point) (portals : List Portal) (goal b q : Point) (ahead place named m : ℕ) → IsChain start portals goal → IsInLook b portals ahead place q → ahead ≤ named → named ≤ m → m < place
    → IsBehind (portal_at portals named) q → IsBehind (portal_at portals m) q
reached_at start portals goal b q ahead place named m chain looked from low high behind =
    subst (λ (n : ℕ). IsBehind (portal_at portals n) q) (omega arith) (reached start portals goal b q ahead place chain looked named (m - named) from (omega arith) behind)

left_turns : (start : Point) (portals : List Portal) (goal b : Point) (ahead : ℕ) (corner : Corner) → IsChain start portals goal → (turn : IsLeftTurn b portals goal ahead corner)
    → TurnsLeft portals goal b turn.wedge.left.at turn.wedge.left.portal turn.place
left_turns start portals goal b ahead corner chain turn = record {
  after = at.before;
  within = turn.look.within;
  at_end = at.at_end;
  crosses = λ m low high. record {
    reached = reached_at start portals goal b wedge.left.at ahead turn.place wedge.left.portal m chain (at_left_ray b portals ahead turn.place wedge turn.look) at.from low high at_portal;
    left = (turn.look.seen.through m (omega (arith, at.from)) high).left_of_left;
    right = (turn.look.seen.through m (omega (arith, at.from)) high).right_of_left;
  };
  closes = turn.closed;
}
  where
    wedge : Funnel
    wedge = turn.wedge

    at : IsEndFrom portals ahead turn.place L wedge.left
    at = turn.look.seen.left

    portal : Portal
    portal = portal_at portals wedge.left.portal

    at_portal : IsBehind portal wedge.left.at
    at_portal = zero-at_least (orient_of portal.right portal.left wedge.left.at) (ap (orient_of portal.right portal.left) at.at_end ∙ orient_of-end portal.right portal.left)

right_turns : (start : Point) (portals : List Portal) (goal b : Point) (ahead : ℕ) (corner : Corner) → IsChain start portals goal → (turn : IsRightTurn b portals goal ahead corner)
    → TurnsRight portals goal b turn.wedge.right.at turn.wedge.right.portal turn.place
right_turns start portals goal b ahead corner chain turn = record {
  after = at.before;
  within = turn.look.within;
  at_end = at.at_end;
  crosses = λ m low high. record {
    reached = reached_at start portals goal b wedge.right.at ahead turn.place wedge.right.portal m chain (at_right_ray b portals ahead turn.place wedge turn.look) at.from low high at_portal;
    left = (turn.look.seen.through m (omega (arith, at.from)) high).left_of_right;
    right = (turn.look.seen.through m (omega (arith, at.from)) high).right_of_right;
  };
  closes_left = turn.closed_left;
  closes_right = turn.closed_right;
}
  where
    wedge : Funnel
    wedge = turn.wedge

    at : IsEndFrom portals ahead turn.place R wedge.right
    at = turn.look.seen.right

    portal : Portal
    portal = portal_at portals wedge.right.portal

    at_portal : IsBehind portal wedge.right.at
    at_portal = zero-at_least (orient_of portal.right portal.left wedge.right.at) (ap (orient_of portal.right portal.left) at.at_end ∙ orient_of-start portal.right portal.left)

-- ---- the other corners

-- the farther end of a portal that one came from beside is straight on
farther_holds : (b : Point) (portal : Portal) (side : Side) → portal.left ≢ portal.right → IsBeside b portal → IsNearerEnd b portal side → b ≢ end_of side portal → IsHolding side b (end_of side portal) (other_end_of side portal)
farther_holds b portal L wide beside nearer apart =
    inl (farther_end b portal.left portal.right (exchanged-zero b portal.left portal.right (sym (orient_of-rotated b portal.right portal.left) ∙ beside.on_line)) beside.outside nearer wide apart)
farther_holds b portal R wide beside nearer apart =
    inl (farther_end b portal.right portal.left (sym (orient_of-rotated b portal.right portal.left) ∙ beside.on_line) (subst (λ (n : ℤ). pos 0 ≤ℤ n) (dot_of-exchanged (from_to b portal.right) (from_to b portal.left)) beside.outside) nearer (λ e. wide (sym e)) apart)

-- the side of a corner
at_side : (corner : Corner) (side : Side) (b c : Point) (portal : Portal) → corner.side ≡ side → IsHolding side b c (other_end_of side portal) → IsHolding corner.side b c (other_end_of corner.side portal)
at_side corner side b c portal e h = subst (λ (s : Side). IsHolding s b c (other_end_of s portal)) (sym e) h

near_begins : (start : Point) (portals : List Portal) (goal b : Point) (first : ℕ) (corner : Corner) → IsChain start portals goal → IsNear b portals first corner → corner.at ≢ b → Begins portals goal b corner
near_begins start portals goal b first corner chain close apart =
    begins_held (subst (λ (c : Point). IsHolding corner.side b c (other_end_of corner.side (portal_at portals corner.portal))) (sym close.at_end)
    (farther_holds b (portal_at portals corner.portal) corner.side (chain.wide corner.portal close.there) close.beside close.nearer (λ e. apart (close.at_end ∙ sym e))))

folded_back_begins : (portals : List Portal) (goal b : Point) (ahead : ℕ) (corner : Corner) → IsFoldedBack b portals ahead corner → Begins portals goal b corner
folded_back_begins portals goal b ahead corner back =
    let portal = portal_at portals corner.portal in
    begins_held (at_side corner R b corner.at portal back.sided (subst (λ (c : Point). IsHolding R b c portal.left) (sym back.at_end) (inr (subst (λ (n : ℤ). n <ℤ pos 0) (orient_of-rotated b portal.right portal.left) back.front))))

through_begins : (start : Point) (portals : List Portal) (goal b : Point) (ahead : ℕ) (corner : Corner) → IsChain start portals goal → IsCornerThrough b portals goal ahead corner → Begins portals goal b corner
through_begins start portals goal b ahead corner chain (left_turn turn) =
    subst (Begins portals goal b) (sym turn.is_left) (begins_turning turn.place (subst (λ (side : Side). Turns side portals goal b turn.wedge.left.at turn.wedge.left.portal turn.place) (sym turn.look.seen.left.sided) (left_turns start portals goal b ahead corner chain turn)))
through_begins start portals goal b ahead corner chain (folded_back back) = folded_back_begins portals goal b ahead corner back
through_begins start portals goal b ahead corner chain (right_turn turn) =
    subst (Begins portals goal b) (sym turn.is_right) (begins_turning turn.place (subst (λ (side : Side). Turns side portals goal b turn.wedge.right.at turn.wedge.right.portal turn.place) (sym turn.look.seen.right.sided) (right_turns start portals goal b ahead corner chain turn)))

-- a corner away from the one before begins a bend
pub begins : (start : Point) (portals : List Portal) (goal b : Point) (first : ℕ) (corner : Corner) → IsChain start portals goal → IsCornerNext b portals goal first corner → corner.at ≢ b → Begins portals goal b corner
begins start portals goal b first corner chain (near it) apart = near_begins start portals goal b first corner chain it apart
begins start portals goal b first corner chain (turned_back it) apart = begins_folded (record { next = it.there; folds = it.folds })
begins start portals goal b first corner chain (through ahead ahead_of it) apart = through_begins start portals goal b ahead corner chain it
