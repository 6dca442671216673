-- Tiles: squares of columns from the corner (0, 0), cut at the field's edge, numbered row by row.
use Rattle.std.specs.Prelude.{ℕ, ◌+◌, ◌*◌, ◌-◌, ◌/◌, ◌%◌, min, pos, ◌+ℤ◌, ◌-ℤ◌, ◌≤ℤ◌, Bool, ◌&&◌, int_le, if◌then◌else◌}
use Rattle.std.specs.Int.{div_ceil}
use Rattle.nav_ground.specs.declared.setting.Setting.{Setting}
use Rattle.nav_ground.specs.declared.cell.Window.{Window}

-- how many tiles stand in a row: the width over the tile's side, rounded up
abbrev pub tiles_in_row : Setting → ℕ
tiles_in_row setting = div_ceil setting.width setting.tile

-- how many rows of tiles there are
abbrev pub tile_rows : Setting → ℕ
tile_rows setting = div_ceil setting.depth setting.tile

-- how many tiles there are
abbrev pub tile_count : Setting → ℕ
tile_count setting = tiles_in_row setting * tile_rows setting

-- the first column of a tile along x, and along z
abbrev pub corner_x : Setting → ℕ → ℕ
corner_x setting tile = (tile % tiles_in_row setting) * setting.tile

-- the first row of a tile along z
abbrev pub corner_z : Setting → ℕ → ℕ
corner_z setting tile = (tile / tiles_in_row setting) * setting.tile

-- the columns of a tile: from its corner on, one side long, but not past the field's edge
abbrev pub tile_window : Setting → ℕ → Window
tile_window setting tile = record {
  x0 = pos (corner_x setting tile);
  x1 = pos (min setting.width (corner_x setting tile + setting.tile) - 1);
  z0 = pos (corner_z setting tile);
  z1 = pos (min setting.depth (corner_z setting tile + setting.tile) - 1);
}

-- a rectangle with so many more columns on each side
abbrev pub widened : Window → ℕ → Window
widened window margin = record {
  x0 = window.x0 -ℤ pos margin;
  x1 = window.x1 +ℤ pos margin;
  z0 = window.z0 -ℤ pos margin;
  z1 = window.z1 +ℤ pos margin;
}

-- how many columns agents keep from obstacles: their radius where the setting says clear, else none
abbrev pub margin_of : Setting → ℕ
margin_of setting = if setting.clear then setting.agent.radius else 0

-- a column lies in a rectangle of columns
pub record IsInWindow (window : Window) (x z : ℕ) : Type 0 where
  pub x_least : window.x0 ≤ℤ pos x
  pub x_most : pos x ≤ℤ window.x1
  pub z_least : window.z0 ≤ℤ pos z
  pub z_most : pos z ≤ℤ window.z1

-- the same as a test, for lists of cells
abbrev pub is_in_window : Window → ℕ → ℕ → Bool
is_in_window window x z =
    int_le window.x0 (pos x) && int_le (pos x) window.x1 && (int_le window.z0 (pos z) && int_le (pos z) window.z1)
