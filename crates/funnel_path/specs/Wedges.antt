-- One step of the wedge: the corner at which it closes at the next portal, or before the goal, and how it narrows.
use Rattle.std.specs.Prelude.{◌≡◌, ℕ, pos, ◌≤ℤ◌, ◌<ℤ◌, ◌⊎◌, Option, None, Some}
use Rattle.nav_base.specs.declared.point.Point.{Point}
use Rattle.nav_base.specs.Point.{HasCoordinates, orient_of}
use Rattle.mesh_types.specs.declared.links.Portal.{Portal}
use Rattle.mesh_types.specs.declared.answers.Side.TheVariants.{L, R}
use Rattle.mesh_types.specs.declared.answers.Corner.{Corner}
use Rattle.funnel_path.specs.Corners.{corner_at_end}
use Rattle.funnel_path.specs.declared.funnel.Funnel.{Funnel}

-- both corners of a wedge have coordinates
pub record HasWedgeCoordinates (wedge : Funnel) : Type 0 where
  pub left : HasCoordinates wedge.left.at
  pub right : HasCoordinates wedge.right.at

-- the wedge through one portal
abbrev pub wedge_of : Portal → ℕ → Funnel
wedge_of portal place = record { left = corner_at_end L portal place; right = corner_at_end R portal place }

-- the left ray moves to a portal's left end that is not to its left, and else it stays
abbrev pub IsLeftRay : Point → Funnel → Portal → ℕ → Corner → Type 0
IsLeftRay apex wedge portal place corner =
    ((orient_of apex wedge.left.at portal.left ≤ℤ pos 0) × (corner ≡ corner_at_end L portal place))
    ⊎ ((pos 0 <ℤ orient_of apex wedge.left.at portal.left) × (corner ≡ wedge.left))

-- the right ray moves to a portal's right end that is not to its right, and else it stays
abbrev pub IsRightRay : Point → Funnel → Portal → ℕ → Corner → Type 0
IsRightRay apex wedge portal place corner =
    ((pos 0 ≤ℤ orient_of apex wedge.right.at portal.right) × (corner ≡ corner_at_end R portal place))
    ⊎ ((orient_of apex wedge.right.at portal.right <ℤ pos 0) × (corner ≡ wedge.right))

-- a wedge narrows to one that goes through one more portal as well
pub record IsNarrowed (apex : Point) (wedge : Funnel) (portal : Portal) (place : ℕ) (narrower : Funnel) : Type 0 where
  pub left : IsLeftRay apex wedge portal place narrower.left
  pub right : IsRightRay apex wedge portal place narrower.right

-- a portal has its right end to the left of the right ray, and the apex does not lie behind it
pub record IsInFront (apex : Point) (wedge : Funnel) (portal : Portal) : Type 0 where
  pub left_of_right : pos 0 <ℤ orient_of apex wedge.right.at portal.right
  pub front : orient_of portal.right portal.left apex ≤ℤ pos 0

-- a portal closes a wedge on the left: its right end is not to the right of the left ray
pub record ClosesLeft (apex : Point) (wedge : Funnel) (right : Point) (corner : Corner) : Type 0 where
  pub is_left : corner ≡ wedge.left
  pub closed : pos 0 ≤ℤ orient_of apex wedge.left.at right

-- a portal whose right end lies inside the wedge does not have the apex behind it
pub record ClosesFront (apex : Point) (wedge : Funnel) (portal : Portal) (place : ℕ) (corner : Corner) : Type 0 where
  pub is_end : corner ≡ corner_at_end R portal place
  pub right_of_left : orient_of apex wedge.left.at portal.right <ℤ pos 0
  pub in_front : IsInFront apex wedge portal

-- a portal closes a wedge on the right: its left end is not to the left of the right ray, and it does not close it otherwise
pub record ClosesRight (apex : Point) (wedge : Funnel) (portal : Portal) (corner : Corner) : Type 0 where
  pub is_right : corner ≡ wedge.right
  pub right_of_left : orient_of apex wedge.left.at portal.right <ℤ pos 0
  pub behind : ¬ IsInFront apex wedge portal
  pub closed : orient_of apex wedge.right.at portal.left ≤ℤ pos 0

-- a portal leaves a wedge open
pub record StaysOpen (apex : Point) (wedge : Funnel) (portal : Portal) : Type 0 where
  pub right_of_left : orient_of apex wedge.left.at portal.right <ℤ pos 0
  pub behind : ¬ IsInFront apex wedge portal
  pub left_of_right : pos 0 <ℤ orient_of apex wedge.right.at portal.left

-- the corner at which a wedge closes at the next portal, if it does
abbrev pub IsMet : Point → Funnel → Portal → ℕ → Option Corner → Type 0
IsMet apex wedge portal place None = StaysOpen apex wedge portal
IsMet apex wedge portal place (Some corner) =
    ClosesLeft apex wedge portal.right corner ⊎ (ClosesFront apex wedge portal place corner ⊎ ClosesRight apex wedge portal corner)

-- a goal closes a wedge on the right
pub record GoalClosesRight (apex : Point) (wedge : Funnel) (goal : Point) (corner : Corner) : Type 0 where
  pub is_right : corner ≡ wedge.right
  pub right_of_left : orient_of apex wedge.left.at goal <ℤ pos 0
  pub closed : orient_of apex wedge.right.at goal ≤ℤ pos 0

-- a goal lies inside a wedge
pub record IsGoalInside (apex : Point) (wedge : Funnel) (goal : Point) : Type 0 where
  pub right_of_left : orient_of apex wedge.left.at goal <ℤ pos 0
  pub left_of_right : pos 0 <ℤ orient_of apex wedge.right.at goal

-- the corner at which a wedge closes before the goal, if it does
abbrev pub IsMetBeforeGoal : Point → Funnel → Point → Option Corner → Type 0
IsMetBeforeGoal apex wedge goal None = IsGoalInside apex wedge goal
IsMetBeforeGoal apex wedge goal (Some corner) = ClosesLeft apex wedge goal corner ⊎ GoalClosesRight apex wedge goal corner
