-- What comes next on a path behind an apex: a corner or the goal, where `first` is the place of the first portal that lies ahead.
use Rattle.std.specs.Prelude.{◌≡◌, ℕ, ◌+◌, ◌<◌, ◌≤◌, pos, ◌<ℤ◌, List, length, Option, None, Some}
use Rattle.nav_base.specs.declared.point.Point.{Point}
use Rattle.nav_base.specs.Point.{orient_of}
use Rattle.mesh_types.specs.declared.links.Portal.{Portal}
use Rattle.mesh_types.specs.declared.answers.Side.TheVariants.{L}
use Rattle.mesh_types.specs.declared.answers.Corner.{Corner}
use Rattle.mesh_types.specs.Chains.{portal_at, IsFold, end_of}
use Rattle.funnel_path.specs.Corners.{IsNearerEnd}
use Rattle.funnel_path.specs.PassedOver.{IsInside, IsBeside, ArePassed}
use Rattle.funnel_path.specs.Closings.{IsCornerThrough, IsInWedge}

-- the portals before `ahead` are passed over, and the apex lies behind the portal there
pub record IsAheadOf (apex : Point) (portals : List Portal) (first ahead : ℕ) : Type 0 where
  pub from : first ≤ ahead
  pub there : ahead < length portals
  pub passed : ArePassed apex portals first ahead
  pub behind : pos 0 <ℤ orient_of (portal_at portals ahead).right (portal_at portals ahead).left apex

-- the apex lies on the next portal's line but not inside it: its nearer end
pub record IsNear (apex : Point) (portals : List Portal) (first : ℕ) (corner : Corner) : Type 0 where
  pub from : first ≤ corner.portal
  pub there : corner.portal < length portals
  pub passed : ArePassed apex portals first corner.portal
  pub beside : IsBeside apex (portal_at portals corner.portal)
  pub at_end : corner.at ≡ end_of corner.side (portal_at portals corner.portal)
  pub nearer : IsNearerEnd apex (portal_at portals corner.portal) corner.side

-- the apex lies inside a portal and the next one, which folds back on it: the left end of the first
pub record IsTurnedBack (apex : Point) (portals : List Portal) (first : ℕ) (corner : Corner) : Type 0 where
  pub from : first ≤ corner.portal
  pub there : corner.portal + 1 < length portals
  pub passed : ArePassed apex portals first (corner.portal + 1)
  pub inside : IsInside apex (portal_at portals (corner.portal + 1))
  pub sided : corner.side ≡ L
  pub at_end : corner.at ≡ (portal_at portals corner.portal).left
  pub folds : IsFold (portal_at portals corner.portal) (portal_at portals (corner.portal + 1))

-- the corner that comes next
pub data IsCornerNext (apex : Point) (portals : List Portal) (goal : Point) (first : ℕ) (corner : Corner) : Type 0 where
  near : IsNear apex portals first corner → IsCornerNext apex portals goal first corner
  turned_back : IsTurnedBack apex portals first corner → IsCornerNext apex portals goal first corner
  through : (ahead : ℕ) → IsAheadOf apex portals first ahead → IsCornerThrough apex portals goal ahead corner
      → IsCornerNext apex portals goal first corner

-- the goal is seen: the apex lies inside all portals that are left, or the goal lies inside the wedge through them
pub data IsGoalNext (apex : Point) (portals : List Portal) (goal : Point) (first : ℕ) : Type 0 where
  all_passed : ArePassed apex portals first (length portals) → IsGoalNext apex portals goal first
  in_wedge : (ahead : ℕ) → IsAheadOf apex portals first ahead → IsInWedge apex portals goal ahead → IsGoalNext apex portals goal first

-- what comes next on a path that turned last at the apex: a corner, or the goal
abbrev pub IsNext : Point → List Portal → Point → ℕ → Option Corner → Type 0
IsNext apex portals goal first None = IsGoalNext apex portals goal first
IsNext apex portals goal first (Some corner) = IsCornerNext apex portals goal first corner
