-- The next corner, and the goal, are seen from the apex.
use Rattle.std.proofs.Common.{◌≡◌, ◌≢◌, ℕ, ◌+◌, ◌≤◌, ◌<◌, pos, ◌<ℤ◌, List, length, sym, ap, subst, ◌∙◌, arith}
use Rattle.nav_base.specs.declared.point.Point.{Point}
use Rattle.std.specs.Prelude.{All}
use Rattle.nav_base.specs.Point.{HasCoordinates, orient_of}
use Rattle.nav_base.proofs.PointTerms.{place}
use Rattle.mesh_types.specs.declared.links.Portal.{Portal}
use Rattle.mesh_types.specs.declared.answers.Side.{Side}
use Rattle.mesh_types.specs.declared.answers.Side.TheVariants.{L, R}
use Rattle.mesh_types.specs.declared.answers.Corner.{Corner}
use Rattle.mesh_types.specs.Chains.{IsAhead, IsBehind, IsChain, portal_at, end_of}
use Rattle.mesh_types.proofs.Words.{some_portal}
use Rattle.mesh_types.specs.Taut.{IsNamed}
use Rattle.funnel_path.specs.declared.funnel.Funnel.{Funnel}
use Rattle.funnel_path.specs.Coordinates.{HasEndCoordinates}
use Rattle.funnel_path.specs.PassedOver.{ArePassed}
use Rattle.funnel_path.specs.NextCorners.{IsAheadOf, IsCornerNext, IsGoalNext, IsNear, IsTurnedBack, all_passed, in_wedge, near, turned_back, through}
use Rattle.funnel_path.specs.Closings.{IsCornerThrough, IsFoldedBack, IsLeftTurn, IsRightTurn, folded_back, left_turn, right_turn}
use Rattle.funnel_path.specs.Looks.{IsEndFrom, IsLook}
use Rattle.funnel_path.proofs.ChainLaws.{chain_ahead, chain_behind, chain_goal}
use Rattle.funnel_path.proofs.PassedLaws.{passed_fewer}
use Rattle.funnel_path.proofs.LineLaws.{inside-left_apart}
use Rattle.funnel_path.proofs.WedgeLaws.{IsInClosed, between_ends, inside_apart, inside_closed, left_apart, left_closed, right_apart, right_closed}
use Rattle.funnel_path.proofs.SightLaws.{IsSeen}

-- a corner that comes next: it is an end of a portal that lies ahead, and it is seen
pub record IsStep (apex : Point) (portals : List Portal) (first : ℕ) (corner : Corner) : Type 0 where
  pub from : first ≤ corner.portal
  pub named : IsNamed portals corner
  pub ahead : ℕ
  pub seen : IsSeen apex corner.at portals first ahead corner.portal

-- an end of the portal after another lies ahead of that one, and an end of the one before it behind it
pub end_ahead : (start : Point) (portals : List Portal) (goal : Point) (m place : ℕ) (side : Side) → IsChain start portals goal → m + 1 ≡ place → place < length portals
    → IsAhead (portal_at portals m) (end_of side (portal_at portals place))
end_ahead start portals goal m place L chain next there =
    subst (λ (n : ℕ). IsAhead (portal_at portals m) (portal_at portals n).left) next (chain_ahead start portals goal m chain (omega arith)).left
end_ahead start portals goal m place R chain next there =
    subst (λ (n : ℕ). IsAhead (portal_at portals m) (portal_at portals n).right) next (chain_ahead start portals goal m chain (omega arith)).right

pub end_behind : (start : Point) (portals : List Portal) (goal : Point) (m : ℕ) (side : Side) → IsChain start portals goal → m + 1 < length portals
    → IsBehind (portal_at portals (m + 1)) (end_of side (portal_at portals m))
end_behind start portals goal m L chain there = (chain_behind start portals goal m chain there).left
end_behind start portals goal m R chain there = (chain_behind start portals goal m chain there).right

-- the end of a portal that a corner names has coordinates where all have
pub named_coordinates : (portals : List Portal) (corner : Corner) → IsNamed portals corner → All HasEndCoordinates portals → HasCoordinates corner.at
named_coordinates portals corner named all = subst HasCoordinates (sym named.at_end) (by corner.side (all corner.portal some_portal named.there))
  where
    by : (side : Side) → HasEndCoordinates (portal_at portals corner.portal) → HasCoordinates (end_of side (portal_at portals corner.portal))
    by L ends = ends.left
    by R ends = ends.right

-- a corner to which all portals are passed over
step_passed : (start : Point) (portals : List Portal) (goal apex : Point) (first : ℕ) (corner : Corner) → IsChain start portals goal → first ≤ corner.portal → IsNamed portals corner
    → ArePassed apex portals first corner.portal → IsStep apex portals first corner
step_passed start portals goal apex first corner chain from named passed =
    record {
      from = from;
      named = named;
      ahead = corner.portal;
      seen = record {
        within = omega (arith, named.there);
        passed = passed;
        between = λ m low high. absurd (omega arith);
        apart = λ h. absurd (omega arith);
        last = λ m next. subst (IsAhead (portal_at portals m)) (sym named.at_end) (end_ahead start portals goal m corner.portal corner.side chain next named.there);
      };
    }

near_step : (start : Point) (portals : List Portal) (goal apex : Point) (first : ℕ) (corner : Corner) → IsChain start portals goal → IsNear apex portals first corner → IsStep apex portals first corner
near_step start portals goal apex first corner chain close =
    step_passed start portals goal apex first corner chain close.from (record { there = close.there; at_end = close.at_end }) close.passed

-- a corner on a side, by its end
named_on : (portals : List Portal) (corner : Corner) (side : Side) → corner.portal < length portals → corner.side ≡ side → corner.at ≡ end_of side (portal_at portals corner.portal) → IsNamed portals corner
named_on portals corner side there sided at_end =
    record { there = there; at_end = subst (λ (s : Side). corner.at ≡ end_of s (portal_at portals corner.portal)) (sym sided) at_end }

turned_back_step : (start : Point) (portals : List Portal) (goal apex : Point) (first : ℕ) (corner : Corner) → IsChain start portals goal → IsTurnedBack apex portals first corner → IsStep apex portals first corner
turned_back_step start portals goal apex first corner chain turned =
    step_passed start portals goal apex first corner chain turned.from (named_on portals corner L (omega (arith, turned.there)) turned.sided turned.at_end)
    (passed_fewer apex portals first (corner.portal + 1) corner.portal (omega arith) turned.passed)

-- ---- what is seen through a wedge

-- a point in the closed wedge, other than the apex, that lies ahead of the last portal before `end`
seen_in_wedge : (apex q : Point) (portals : List Portal) (first ahead place end : ℕ) (wedge : Funnel) → ArePassed apex portals first ahead → IsLook apex portals ahead place wedge → end ≤ place
    → IsInClosed apex wedge q → apex ≢ q → ((m : ℕ) → m + 1 ≡ end → IsAhead (portal_at portals m) q) → IsSeen apex q portals first ahead end
seen_in_wedge apex q portals first ahead place end wedge passed look before closed apart last =
    record {
      within = omega (arith, look.within);
      passed = passed;
      between = λ m low high. between_ends apex wedge (portal_at portals m) q look.seen.wide (look.seen.through m low (omega arith)) closed;
      apart = λ h. apart;
      last = last;
    }

-- a corner of the wedge
step_end : (start : Point) (portals : List Portal) (goal apex : Point) (first ahead place : ℕ) (side : Side) (wedge : Funnel) (corner : Corner) → IsChain start portals goal → IsAheadOf apex portals first ahead
    → IsLook apex portals ahead place wedge → IsEndFrom portals ahead place side corner → IsInClosed apex wedge corner.at → apex ≢ corner.at → IsStep apex portals first corner
step_end start portals goal apex first ahead place side wedge corner chain of look is closed apart =
    record {
      from = omega (arith, of.from, is.from);
      named = named;
      ahead = ahead;
      seen = seen_in_wedge apex corner.at portals first ahead place corner.portal wedge of.passed look (omega (arith, is.before)) closed apart
          (λ m next. subst (IsAhead (portal_at portals m)) (sym named.at_end) (end_ahead start portals goal m corner.portal corner.side chain next named.there));
    }
  where
    named : IsNamed portals corner
    named = named_on portals corner side (omega (arith, is.before, look.within)) is.sided is.at_end

left_step : (start : Point) (portals : List Portal) (goal apex : Point) (first ahead : ℕ) (corner : Corner) → IsChain start portals goal → IsAheadOf apex portals first ahead
    → IsLeftTurn apex portals goal ahead corner → IsStep apex portals first corner
left_step start portals goal apex first ahead corner chain of turn =
    subst (IsStep apex portals first) (sym turn.is_left)
    (step_end start portals goal apex first ahead turn.place L turn.wedge turn.wedge.left chain of turn.look turn.look.seen.left (left_closed apex turn.wedge turn.look.seen.wide) (left_apart apex turn.wedge turn.look.seen.wide))

right_step : (start : Point) (portals : List Portal) (goal apex : Point) (first ahead : ℕ) (corner : Corner) → IsChain start portals goal → IsAheadOf apex portals first ahead
    → IsRightTurn apex portals goal ahead corner → IsStep apex portals first corner
right_step start portals goal apex first ahead corner chain of turn =
    subst (IsStep apex portals first) (sym turn.is_right)
    (step_end start portals goal apex first ahead turn.place R turn.wedge turn.wedge.right chain of turn.look turn.look.seen.right (right_closed apex turn.wedge turn.look.seen.wide) (right_apart apex turn.wedge turn.look.seen.wide))

folded_step : (start : Point) (portals : List Portal) (goal apex : Point) (first ahead : ℕ) (corner : Corner) → IsChain start portals goal → IsAheadOf apex portals first ahead
    → IsFoldedBack apex portals ahead corner → IsStep apex portals first corner
folded_step start portals goal apex first ahead corner chain of folded =
    record {
      from = omega (arith, of.from, folded.look.some);
      named = named;
      ahead = ahead;
      seen = seen_in_wedge apex corner.at portals first ahead corner.portal corner.portal folded.wedge of.passed folded.look (omega arith)
          (inside_closed apex folded.wedge corner.at of_left of_right) (inside_apart apex folded.wedge corner.at of_right)
          (λ m next. subst (IsAhead (portal_at portals m)) (sym named.at_end) (end_ahead start portals goal m corner.portal corner.side chain next named.there));
    }
  where
    named : IsNamed portals corner
    named = named_on portals corner R folded.there folded.sided folded.at_end

    of_left : orient_of apex folded.wedge.left.at corner.at <ℤ pos 0
    of_left = subst (λ (p : Point). orient_of apex folded.wedge.left.at p <ℤ pos 0) (sym folded.at_end) folded.right_of_left

    of_right : pos 0 <ℤ orient_of apex folded.wedge.right.at corner.at
    of_right = subst (λ (p : Point). pos 0 <ℤ orient_of apex folded.wedge.right.at p) (sym folded.at_end) folded.left_of_right

through_step : (start : Point) (portals : List Portal) (goal apex : Point) (first ahead : ℕ) (corner : Corner) → IsChain start portals goal → IsAheadOf apex portals first ahead
    → IsCornerThrough apex portals goal ahead corner → IsStep apex portals first corner
through_step start portals goal apex first ahead corner chain of (left_turn turn) = left_step start portals goal apex first ahead corner chain of turn
through_step start portals goal apex first ahead corner chain of (folded_back folded) = folded_step start portals goal apex first ahead corner chain of folded
through_step start portals goal apex first ahead corner chain of (right_turn turn) = right_step start portals goal apex first ahead corner chain of turn

-- the corner that comes next
pub next_step : (start : Point) (portals : List Portal) (goal apex : Point) (first : ℕ) (corner : Corner) → IsChain start portals goal → IsCornerNext apex portals goal first corner → IsStep apex portals first corner
next_step start portals goal apex first corner chain (near at) = near_step start portals goal apex first corner chain at
next_step start portals goal apex first corner chain (turned_back turned) = turned_back_step start portals goal apex first corner chain turned
next_step start portals goal apex first corner chain (through ahead of turn) = through_step start portals goal apex first ahead corner chain of turn

-- the goal
pub next_goal : (start : Point) (portals : List Portal) (goal apex : Point) (first : ℕ) → IsChain start portals goal → IsGoalNext apex portals goal first
    → (ahead : ℕ) × IsSeen apex goal portals first ahead (length portals)
next_goal start portals goal apex first chain (all_passed passed) = (
  length portals,
  record {
    within = omega arith;
    passed = passed;
    between = λ m low high. absurd (omega arith);
    apart = λ h. absurd (omega arith);
    last = λ m next. chain_goal start portals goal m chain next;
  },
)
next_goal start portals goal apex first chain (in_wedge ahead of inside) = (
  ahead,
  seen_in_wedge apex goal portals first ahead (length portals) (length portals) inside.wedge of.passed inside.look (omega arith)
      (inside_closed apex inside.wedge goal inside.right_of_left inside.left_of_right) (inside_apart apex inside.wedge goal inside.left_of_right) (λ m next. chain_goal start portals goal m chain next),
)

-- ---- a corner at the apex

through_apart : (apex : Point) (portals : List Portal) (goal : Point) (ahead : ℕ) (corner : Corner) → IsCornerThrough apex portals goal ahead corner → apex ≢ corner.at
through_apart apex portals goal ahead corner (left_turn turn) same = left_apart apex turn.wedge turn.look.seen.wide (same ∙ ap (λ (c : Corner). c.at) turn.is_left)
through_apart apex portals goal ahead corner (folded_back folded) same = inside_apart apex folded.wedge (portal_at portals corner.portal).right folded.left_of_right (same ∙ folded.at_end)
through_apart apex portals goal ahead corner (right_turn turn) same = right_apart apex turn.wedge turn.look.seen.wide (same ∙ ap (λ (c : Corner). c.at) turn.is_right)

-- so the next corner is at the apex only where the apex is an end of the next portal
pub next_at_apex : (apex : Point) (portals : List Portal) (goal : Point) (first : ℕ) (corner : Corner) → IsCornerNext apex portals goal first corner → corner.at ≡ apex → IsNear apex portals first corner
next_at_apex apex portals goal first corner (near at) same = at
next_at_apex apex portals goal first corner (turned_back turned) same =
    absurd (inside-left_apart apex (portal_at portals corner.portal).left (portal_at portals corner.portal).right (turned.passed.inside corner.portal turned.from (omega arith)).between (sym turned.at_end ∙ same))
next_at_apex apex portals goal first corner (through ahead of turn) same = absurd (through_apart apex portals goal ahead corner turn (sym same))
