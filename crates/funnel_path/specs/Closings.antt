-- The corner at which the wedge from an apex closes, or the goal where it lies inside.
use Rattle.std.specs.Prelude.{◌≡◌, ℕ, ◌-◌, ◌<◌, pos, ◌≤ℤ◌, ◌<ℤ◌, List, length, Option, None, Some}
use Rattle.nav_base.specs.declared.point.Point.{Point}
use Rattle.nav_base.specs.Point.{orient_of}
use Rattle.mesh_types.specs.declared.links.Portal.{Portal}
use Rattle.mesh_types.specs.declared.answers.Side.TheVariants.{R}
use Rattle.mesh_types.specs.declared.answers.Corner.{Corner}
use Rattle.mesh_types.specs.Chains.{portal_at, IsFold}
use Rattle.funnel_path.specs.declared.funnel.Funnel.{Funnel}
use Rattle.funnel_path.specs.Looks.{portal_or_goal, IsLook}

-- the right end of the next portal, or the goal, is not to the right of the left ray: the wedge's left corner
pub record IsLeftTurn (apex : Point) (portals : List Portal) (goal : Point) (ahead : ℕ) (corner : Corner) : Type 0 where
  pub place : ℕ
  pub wedge : Funnel
  pub look : IsLook apex portals ahead place wedge
  pub is_left : corner ≡ wedge.left
  pub closed : pos 0 ≤ℤ orient_of apex wedge.left.at (portal_or_goal portals goal place).right

-- the right end of the next portal lies inside the wedge, and the apex in front of that portal: it folds back on the one before it, and its
-- right end is the corner
pub record IsFoldedBack (apex : Point) (portals : List Portal) (ahead : ℕ) (corner : Corner) : Type 0 where
  pub wedge : Funnel
  pub look : IsLook apex portals ahead corner.portal wedge
  pub there : corner.portal < length portals
  pub sided : corner.side ≡ R
  pub at_end : corner.at ≡ (portal_at portals corner.portal).right
  pub right_of_left : orient_of apex wedge.left.at (portal_at portals corner.portal).right <ℤ pos 0
  pub left_of_right : pos 0 <ℤ orient_of apex wedge.right.at (portal_at portals corner.portal).right
  pub front : orient_of (portal_at portals corner.portal).right (portal_at portals corner.portal).left apex <ℤ pos 0
  pub folds : IsFold (portal_at portals (corner.portal - 1)) (portal_at portals corner.portal)

-- neither end of the next portal, or not the goal, is to the left of the right ray: the wedge's right corner
pub record IsRightTurn (apex : Point) (portals : List Portal) (goal : Point) (ahead : ℕ) (corner : Corner) : Type 0 where
  pub place : ℕ
  pub wedge : Funnel
  pub look : IsLook apex portals ahead place wedge
  pub is_right : corner ≡ wedge.right
  pub right_of_left : orient_of apex wedge.left.at (portal_or_goal portals goal place).right <ℤ pos 0
  pub closed_left : orient_of apex wedge.right.at (portal_or_goal portals goal place).left ≤ℤ pos 0
  pub closed_right : orient_of apex wedge.right.at (portal_or_goal portals goal place).right ≤ℤ pos 0

-- the corner at which the wedge closes
pub data IsCornerThrough (apex : Point) (portals : List Portal) (goal : Point) (ahead : ℕ) (corner : Corner) : Type 0 where
  left_turn : IsLeftTurn apex portals goal ahead corner → IsCornerThrough apex portals goal ahead corner
  folded_back : IsFoldedBack apex portals ahead corner → IsCornerThrough apex portals goal ahead corner
  right_turn : IsRightTurn apex portals goal ahead corner → IsCornerThrough apex portals goal ahead corner

-- the goal lies inside the wedge through all portals from `ahead` on
pub record IsInWedge (apex : Point) (portals : List Portal) (goal : Point) (ahead : ℕ) : Type 0 where
  pub wedge : Funnel
  pub look : IsLook apex portals ahead (length portals) wedge
  pub right_of_left : orient_of apex wedge.left.at goal <ℤ pos 0
  pub left_of_right : pos 0 <ℤ orient_of apex wedge.right.at goal

-- what one sees from an apex behind the portal at `ahead`: the corner where the wedge closes, or the goal
abbrev pub IsThrough : Point → List Portal → Point → ℕ → Option Corner → Type 0
IsThrough apex portals goal ahead None = IsInWedge apex portals goal ahead
IsThrough apex portals goal ahead (Some corner) = IsCornerThrough apex portals goal ahead corner
