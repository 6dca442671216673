-- Sides: windows of tiles, and doors along their sides.
use Rattle.std.specs.Prelude.{ℕ, nat_lt, ◌&&◌, if◌then◌else◌, pos, ◌<ℤ◌, ◌≤ℤ◌, Option, Some, None}
use Rattle.nav_ground.specs.declared.cell.Window.{Window}
use Rattle.mesh_types.specs.declared.region.PortalEdge.{PortalEdge}
use Rattle.mesh_types.specs.DoorRim.{is_on_line}

-- the last columns of a tile are columns of the largest field
pub record IsFieldWindow (window : Window) : Type 0 where
  pub right : pos 0 ≤ℤ window.x1
  pub right_most : window.x1 <ℤ pos 1024
  pub top : pos 0 ≤ℤ window.z1
  pub top_most : window.z1 <ℤ pos 1024

-- a side of the tile, if it is one and a door lies on it
abbrev pub side_along : Window → ℕ → PortalEdge → Option ℕ
side_along window side door =
    if nat_lt side 4 && is_on_line window side door.begin && is_on_line window side door.end then Some side else None
