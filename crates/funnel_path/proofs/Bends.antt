-- What is known of the last bend of a path while the path is being found: which way it turns, where that is settled, and where it is not.
use Rattle.std.proofs.Common.{◌≡◌, ◌≢◌, ℕ, ◌+◌, ◌≤◌, ◌<◌, ℤ, pos, ◌-ℤ◌, ◌≤ℤ◌, ◌<ℤ◌, List, length, arith}
use Rattle.std.proofs.lemmas.Int.{ints}
use Rattle.nav_base.specs.declared.point.Point.{Point}
use Rattle.nav_base.specs.Point.{orient_of}
use Rattle.nav_base.proofs.OrientLaws.{orient_of-end, orient_of-start, orient_of-facing}
use Rattle.mesh_types.specs.declared.links.Portal.{Portal}
use Rattle.mesh_types.specs.declared.answers.Side.{Side}
use Rattle.mesh_types.specs.declared.answers.Side.TheVariants.{L, R}
use Rattle.mesh_types.specs.declared.answers.Corner.{Corner}
use Rattle.mesh_types.specs.Chains.{IsAhead, IsBehind, IsFold, portal_at, end_of, other_end_of}
use Rattle.mesh_types.specs.Bends.{IsHolding}
use Rattle.funnel_path.specs.Looks.{portal_or_goal}
use Rattle.funnel_path.proofs.SideRules.{zero-at_most, around-not_above, around-above, around-below}
use Rattle.funnel_path.proofs.HoldingLaws.{holds_left, holds_right}

-- The path comes from b and bends at c; to go on is to keep the way from b to c.

-- to go on from the bend leads through a portal: the bend lies behind it, its left end not to the right and its right end to the right
pub record CrossesLeft (b c : Point) (portal : Portal) : Type 0 where
  pub reached : IsBehind portal c
  pub left : pos 0 ≤ℤ orient_of b c portal.left
  pub right : orient_of b c portal.right <ℤ pos 0

-- or its left end to the left and its right end not to the left
pub record CrossesRight (b c : Point) (portal : Portal) : Type 0 where
  pub reached : IsBehind portal c
  pub left : pos 0 <ℤ orient_of b c portal.left
  pub right : orient_of b c portal.right ≤ℤ pos 0

-- The bend is the left end of the portal that its last corner names. To go on leads through this one and those after it up to before `place`,
-- and past the right end of the one there, or the goal, to its right: so the path turns left or goes straight on.
pub record TurnsLeft (portals : List Portal) (goal b c : Point) (named place : ℕ) : Type 0 where
  pub after : named < place
  pub within : place ≤ length portals
  pub at_end : c ≡ (portal_at portals named).left
  pub crosses : (m : ℕ) → named ≤ m → m < place → CrossesLeft b c (portal_at portals m)
  pub closes : pos 0 ≤ℤ orient_of b c (portal_or_goal portals goal place).right

-- The bend is a right end, and to go on leads past both ends of the portal at `place` to their left: the path turns right or goes straight on.
pub record TurnsRight (portals : List Portal) (goal b c : Point) (named place : ℕ) : Type 0 where
  pub after : named < place
  pub within : place ≤ length portals
  pub at_end : c ≡ (portal_at portals named).right
  pub crosses : (m : ℕ) → named ≤ m → m < place → CrossesRight b c (portal_at portals m)
  pub closes_left : orient_of b c (portal_or_goal portals goal place).left ≤ℤ pos 0
  pub closes_right : orient_of b c (portal_or_goal portals goal place).right ≤ℤ pos 0

-- The bend has corners on both sides, and b lies behind the portal that the last one names: the path may turn either way.
pub record TurnsEither (portals : List Portal) (b c : Point) (named : ℕ) : Type 0 where
  pub side : Side
  pub there : named < length portals
  pub at_end : c ≡ end_of side (portal_at portals named)
  pub behind : pos 0 <ℤ orient_of (portal_at portals named).right (portal_at portals named).left b

-- the next portal folds back on a portal
pub record FoldsAt (portals : List Portal) (named : ℕ) : Type 0 where
  pub next : named + 1 < length portals
  pub folds : IsFold (portal_at portals named) (portal_at portals (named + 1))

-- the path turns to a side
abbrev pub Turns : Side → List Portal → Point → Point → Point → ℕ → ℕ → Type 0
Turns L portals goal b c named place = TurnsLeft portals goal b c named place
Turns R portals goal b c named place = TurnsRight portals goal b c named place

abbrev pub opposite_side : Side → Side
opposite_side L = R
opposite_side R = L

-- what is known where one more corner comes at a bend that turns to a side
pub data GoesOn (side : Side) (portals : List Portal) (goal b c : Point) (named : ℕ) (corner : Corner) : Type 0 where
  stays_folded : FoldsAt portals named → GoesOn side portals goal b c named corner
  stays_held : IsHolding corner.side b c (other_end_of corner.side (portal_at portals corner.portal)) → GoesOn side portals goal b c named corner
  stays_turning : (place : ℕ) → corner.side ≡ side → Turns side portals goal b c corner.portal place → GoesOn side portals goal b c named corner
  becomes_either : corner.side ≡ opposite_side side → TurnsEither portals b c corner.portal → GoesOn side portals goal b c named corner

-- and at one that may turn either way
pub data GoesOnEither (portals : List Portal) (b c : Point) (named : ℕ) (corner : Corner) : Type 0 where
  either_folded : FoldsAt portals named → GoesOnEither portals b c named corner
  either_held : IsHolding corner.side b c (other_end_of corner.side (portal_at portals corner.portal)) → GoesOnEither portals b c named corner
  either_still : TurnsEither portals b c corner.portal → GoesOnEither portals b c named corner

-- ---- the way on

-- a portal with its left end further left than its right end is one that the way leads ahead for
pub goes_ahead : (b c : Point) (portal : Portal) → orient_of b c portal.right <ℤ orient_of b c portal.left → orient_of portal.right portal.left c <ℤ orient_of portal.right portal.left b
goes_ahead b c portal h = less (orient_of portal.right portal.left b) (orient_of portal.right portal.left c) (orient_of b c portal.left) (orient_of b c portal.right) (orient_of-facing portal.right portal.left b c) h
  where
    less : (m n o p : ℤ) → m -ℤ n ≡ o -ℤ p → p <ℤ o → n <ℤ m
    less m n o p is h = omega (arith, ints)

-- and the other way round
pub ahead_goes : (b c : Point) (portal : Portal) → orient_of portal.right portal.left c <ℤ orient_of portal.right portal.left b → orient_of b c portal.right <ℤ orient_of b c portal.left
ahead_goes b c portal h = less (orient_of portal.right portal.left b) (orient_of portal.right portal.left c) (orient_of b c portal.left) (orient_of b c portal.right) (orient_of-facing portal.right portal.left b c) h
  where
    less : (m n o p : ℤ) → m -ℤ n ≡ o -ℤ p → n <ℤ m → p <ℤ o
    less m n o p is h = omega (arith, ints)

pub crosses_left_ahead : (b c : Point) (portal : Portal) → CrossesLeft b c portal → orient_of portal.right portal.left c <ℤ orient_of portal.right portal.left b
crosses_left_ahead b c portal is = goes_ahead b c portal (around-above (orient_of b c portal.right) (orient_of b c portal.left) is.right is.left)

pub crosses_right_ahead : (b c : Point) (portal : Portal) → CrossesRight b c portal → orient_of portal.right portal.left c <ℤ orient_of portal.right portal.left b
crosses_right_ahead b c portal is = goes_ahead b c portal (around-below (orient_of b c portal.right) (orient_of b c portal.left) is.right is.left)

-- what lies ahead of such a portal, and not to the right, holds a bend on the left
pub crosses_left_holds : (b c : Point) (portal : Portal) (x : Point) → CrossesLeft b c portal → IsAhead portal x → x ≢ c → pos 0 ≤ℤ orient_of b c x → IsHolding L b c x
crosses_left_holds b c portal x is ahead apart left =
    holds_left portal.right portal.left b c x (crosses_left_ahead b c portal is) (around-not_above (orient_of portal.right portal.left x) (orient_of portal.right portal.left c) ahead is.reached) apart left

pub crosses_right_holds : (b c : Point) (portal : Portal) (x : Point) → CrossesRight b c portal → IsAhead portal x → x ≢ c → orient_of b c x ≤ℤ pos 0 → IsHolding R b c x
crosses_right_holds b c portal x is ahead apart right =
    holds_right portal.right portal.left b c x (crosses_right_ahead b c portal is) (around-not_above (orient_of portal.right portal.left x) (orient_of portal.right portal.left c) ahead is.reached) apart right

-- so does its own end on that side
pub crosses_left_end : (b c : Point) (portal : Portal) → CrossesLeft b c portal → portal.left ≢ c → IsHolding L b c portal.left
crosses_left_end b c portal is apart = crosses_left_holds b c portal portal.left is (zero-at_most (orient_of portal.right portal.left portal.left) (orient_of-end portal.right portal.left)) apart is.left

pub crosses_right_end : (b c : Point) (portal : Portal) → CrossesRight b c portal → portal.right ≢ c → IsHolding R b c portal.right
crosses_right_end b c portal is apart = crosses_right_holds b c portal portal.right is (zero-at_most (orient_of portal.right portal.left portal.right) (orient_of-start portal.right portal.left)) apart is.right
