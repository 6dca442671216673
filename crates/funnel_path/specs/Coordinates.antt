-- The range of coordinates in a chain.
use Rattle.std.specs.Prelude.{List, All}
use Rattle.nav_base.specs.declared.point.Point.{Point}
use Rattle.nav_base.specs.Point.{HasCoordinates}
use Rattle.mesh_types.specs.declared.links.Portal.{Portal}

-- both ends of a portal have coordinates
pub record HasEndCoordinates (portal : Portal) : Type 0 where
  pub left : HasCoordinates portal.left
  pub right : HasCoordinates portal.right

-- every point of a chain has coordinates
pub record HasChainCoordinates (start : Point) (portals : List Portal) (goal : Point) : Type 0 where
  pub at_start : HasCoordinates start
  pub at_ends : All HasEndCoordinates portals
  pub at_goal : HasCoordinates goal
