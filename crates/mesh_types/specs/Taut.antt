-- Taut: lines through a chain of portals that are pulled tight.
use Rattle.std.specs.Prelude.{◌≡◌, ◌≢◌, ℕ, ◌+◌, ◌<◌, ◌≤◌, ◌⊎◌, List, length, AllPairs, get_or}
use Rattle.nav_base.specs.declared.point.Point.{Point}
use Rattle.mesh_types.specs.declared.links.Portal.{Portal}
use Rattle.mesh_types.specs.declared.answers.Side.{Side}
use Rattle.mesh_types.specs.declared.answers.Corner.{Corner}
use Rattle.mesh_types.specs.Chains.{portal_at, end_of}
use Rattle.mesh_types.specs.Segments.{taut_corners_of, IsTight}
use Rattle.mesh_types.specs.Bends.{IsBend, some_corner, IsHeldOn, IsFoldedOn}

-- (a) each corner is the end that it names of a portal that is there
pub record IsNamed (portals : List Portal) (corner : Corner) : Type 0 where
  pub there : corner.portal < length portals
  pub at_end : corner.at ≡ end_of corner.side (portal_at portals corner.portal)

-- and of two corners the later names no earlier portal, and not the same end of the same one
pub record AreInTurn (a b : Corner) : Type 0 where
  pub later : a.portal ≤ b.portal
  pub another : a.portal ≡ b.portal → a.side ≢ b.side

-- a line from a start over corners to a goal is taut in a chain of portals
pub record IsTaut (start : Point) (portals : List Portal) (goal : Point) (corners : List Corner) : Type 0 where
  pub named : (k : ℕ) → k < length corners → IsNamed portals (get_or corners k some_corner)
  pub in_turn : AllPairs AreInTurn corners
  pub tight : (k : ℕ) → k + 1 < length (taut_corners_of start portals goal corners) → IsTight portals (taut_corners_of start portals goal corners) k
  pub held : (first last : ℕ) → IsBend (taut_corners_of start portals goal corners) first last
      → ((side : Side) × IsHeldOn portals (taut_corners_of start portals goal corners) corners first last side) ⊎ IsFoldedOn portals corners first last
