-- Chains that are written out by hand: what is tested of one before it is pulled.
use Rattle.std.specs.Prelude.{◌≢◌, ℕ, ◌<◌, List, length, All}
use Rattle.nav_base.specs.declared.point.Point.{Point}
use Rattle.mesh_types.specs.declared.links.Portal.{Portal}
use Rattle.mesh_types.specs.Chains.{IsAhead, IsBehind, IsChain, points_after, points_before, portal_at}
use Rattle.funnel_path.specs.Coordinates.{HasChainCoordinates}

-- a portal of a chain at a place
pub record IsPortalOf (start : Point) (portals : List Portal) (goal : Point) (place : ℕ) : Type 0 where
  pub wide : (portal_at portals place).left ≢ (portal_at portals place).right
  pub behind : All (IsBehind (portal_at portals place)) (points_before start portals place)
  pub ahead : All (IsAhead (portal_at portals place)) (points_after portals goal place)

-- a chain with few portals and with coordinates
pub record IsSmallChain (start : Point) (portals : List Portal) (goal : Point) : Type 0 where
  pub chain : IsChain start portals goal
  pub few : length portals < 4294967295
  pub coordinates : HasChainCoordinates start portals goal
