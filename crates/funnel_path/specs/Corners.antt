-- Ends of portals as corners, and which end is nearer.
use Rattle.std.specs.Prelude.{◌≡◌, ℕ, ℤ, ◌≤ℤ◌}
use Rattle.nav_base.specs.declared.point.Point.{Point}
use Rattle.nav_base.specs.Point.{dot_of, from_to}
use Rattle.mesh_types.specs.declared.links.Portal.{Portal}
use Rattle.mesh_types.specs.declared.answers.Side.{Side}
use Rattle.mesh_types.specs.declared.answers.Corner.{Corner}
use Rattle.mesh_types.specs.Chains.{end_of, other_end_of}

-- the corner at the end of a portal on a side
abbrev pub corner_at_end : Side → Portal → ℕ → Corner
corner_at_end side portal place = record { at = end_of side portal; side = side; portal = place }

-- the square of the distance of two points
abbrev pub square_between : Point → Point → ℤ
square_between a b = dot_of (from_to a b) (from_to a b)

-- the end of a portal on a side is as near to the apex as the other, or nearer
abbrev pub IsNearerEnd : Point → Portal → Side → Type 0
IsNearerEnd apex portal side = square_between apex (end_of side portal) ≤ℤ square_between apex (other_end_of side portal)

-- the corner at the nearer end of a portal
pub record IsNearerCorner (apex : Point) (portal : Portal) (place : ℕ) (corner : Corner) : Type 0 where
  pub is_end : corner ≡ corner_at_end corner.side portal place
  pub nearer : IsNearerEnd apex portal corner.side
