-- Tiles: the tile that a column lies in, and the layer of a tile while cells are handed out.
use Rattle.std.specs.Prelude.{ℕ, ◌+◌, ◌*◌, ◌/◌, ◌<◌, List, map, All}
use Rattle.nav_ground.specs.declared.setting.Setting.{Setting}
use Rattle.nav_ground.specs.declared.cell.Cell.{Cell}
use Rattle.nav_ground.specs.declared.cell.Layer.{Layer}
use Rattle.nav_ground.specs.Tiling.{tiles_in_row, tile_window, margin_of}
use Rattle.nav_ground.specs.Clearance.{cells_in}
use Rattle.nav_ground.specs.Layers.{layer_cell, wide_cells}

-- the tile of a column: the row of tiles times how many stand in a row, and the place in the row
abbrev pub tile_at : Setting → ℕ → ℕ → ℕ
tile_at setting x z = (z / setting.tile) * tiles_in_row setting + x / setting.tile

-- a column lies in the field
pub record IsInField (setting : Setting) (x z : ℕ) : Type 0 where
  pub width : x < setting.width
  pub depth : z < setting.depth

-- the cells lie in the field
abbrev pub AreInField : Setting → List Cell → Type 0
AreInField setting cells = All (λ (cell : Cell). IsInField setting cell.at.x cell.at.z) cells

-- the layer of a tile while only some of the kept cells are handed out
abbrev pub layer_with : Setting → List Cell → List Cell → List Cell → ℕ → Layer
layer_with setting all kept some tile = record {
  tile = tile;
  cells = map (layer_cell kept) (cells_in (tile_window setting tile) some);
  radius = margin_of setting;
  wide = wide_cells setting all tile;
}
