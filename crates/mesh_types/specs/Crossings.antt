-- Crossings: the cells of a tile that have a kept neighbour across one of its sides.
use Rattle.std.specs.Prelude.{ℕ, ◌%◌, Bool, ◌==◌, ◌&&◌, if◌then◌else◌, is_some, unwrap_or, pos, int_le}
use Rattle.nav_ground.specs.declared.cell.Cell.{Cell}
use Rattle.nav_ground.specs.declared.cell.CellRef.{CellRef}
use Rattle.nav_ground.specs.declared.cell.Window.{Window}
use Rattle.nav_ground.specs.Cells.{next_level}
use Rattle.mesh_types.specs.declared.mesh.LevelPair.{LevelPair}

-- the neighbouring column of a cell in a direction lies outside the tile
abbrev pub is_at_side : Window → ℕ → CellRef → Bool
is_at_side window dir at =
    if dir == 0 then int_le (pos at.x) window.x0
    else (if dir == 1 then int_le window.z1 (pos at.z)
    else (if dir == 2 then int_le window.x1 (pos at.x)
    else int_le (pos at.z) window.z0))

-- a cell has a kept neighbour across the side of its tile in a direction
abbrev pub is_crossing : Window → ℕ → Cell → Bool
is_crossing window dir cell = is_at_side window dir cell.at && is_some (next_level cell dir)

-- the position of a cell along a side of the tile: z on the sides 0 and 2, x on the sides 1 and 3
abbrev pub position_of : ℕ → CellRef → ℕ
position_of side at = if side % 2 == 0 then at.z else at.x

-- the levels of a cell and of its neighbour across
abbrev pub level_pair : ℕ → Cell → LevelPair
level_pair side cell = record { own = cell.at.level; other = unwrap_or (next_level cell side) 0 }
