-- What one sees who looks ahead through a chain from an apex, the point where the path turned last: the wedge through the portals
-- ahead; and when portals are a chain to a goal.
use Rattle.std.specs.Prelude.{◌≡◌, ℕ, ◌<◌, ◌≤◌, pos, ◌≤ℤ◌, ◌<ℤ◌, List, length, get_or}
use Rattle.nav_base.specs.declared.point.Point.{Point}
use Rattle.nav_base.specs.Point.{orient_of}
use Rattle.mesh_types.specs.declared.links.Portal.{Portal}
use Rattle.mesh_types.specs.declared.answers.Side.{Side}
use Rattle.mesh_types.specs.declared.answers.Side.TheVariants.{L, R}
use Rattle.mesh_types.specs.declared.answers.Corner.{Corner}
use Rattle.mesh_types.specs.Chains.{portal_at, IsChain, end_of}
use Rattle.funnel_path.specs.declared.funnel.Funnel.{Funnel}

-- the portal at a place, and after the last one the goal, as a portal of no width
abbrev pub portal_or_goal : List Portal → Point → ℕ → Portal
portal_or_goal portals goal m = get_or portals m (record { left = goal; right = goal })

-- portals lead to a goal: they are a chain from some start to it
pub record LeadsTo (portals : List Portal) (goal : Point) : Type 0 where
  pub start : Point
  pub chain : IsChain start portals goal

-- portals are chained: they are a chain from some start to some goal
pub record AreChained (portals : List Portal) : Type 0 where
  pub goal : Point
  pub leads : LeadsTo portals goal

-- a corner is the end on a side of one of the portals from one place up to before another
pub record IsEndFrom (portals : List Portal) (first end : ℕ) (side : Side) (corner : Corner) : Type 0 where
  pub sided : corner.side ≡ side
  pub from : first ≤ corner.portal
  pub before : corner.portal < end
  pub at_end : corner.at ≡ end_of side (portal_at portals corner.portal)

-- every ray of the wedge from the apex goes through a portal: the apex lies behind it, its left end not to the right of the left ray, its
-- right end not to the left of the right ray, and each end on the proper side of the other ray
pub record GoesThroughAll (apex : Point) (wedge : Funnel) (portal : Portal) : Type 0 where
  pub behind : pos 0 <ℤ orient_of portal.right portal.left apex
  pub left_of_left : pos 0 ≤ℤ orient_of apex wedge.left.at portal.left
  pub right_of_left : orient_of apex wedge.left.at portal.right <ℤ pos 0
  pub right_of_right : orient_of apex wedge.right.at portal.right ≤ℤ pos 0
  pub left_of_right : pos 0 <ℤ orient_of apex wedge.right.at portal.left

-- the wedge from the apex through the portals from one place up to before another: it is open, its rays go through an end of those, and
-- every ray in it goes through each of them
pub record IsWedge (apex : Point) (portals : List Portal) (ahead end : ℕ) (wedge : Funnel) : Type 0 where
  pub left : IsEndFrom portals ahead end L wedge.left
  pub right : IsEndFrom portals ahead end R wedge.right
  pub wide : pos 0 <ℤ orient_of apex wedge.right.at wedge.left.at
  pub through : (m : ℕ) → ahead ≤ m → m < end → GoesThroughAll apex wedge (portal_at portals m)

-- what one sees from an apex behind the portal at `ahead`, up to before a place: the wedge through those portals
pub record IsLook (apex : Point) (portals : List Portal) (ahead place : ℕ) (wedge : Funnel) : Type 0 where
  pub some : ahead < place
  pub within : place ≤ length portals
  pub seen : IsWedge apex portals ahead place wedge
