-- Layers: the kept cells of a field, tile by tile.
use Rattle.std.specs.Prelude.{ℕ, if◌then◌else◌, List, [], ◌∷◌, map, Option, None}
use Rattle.std.specs.List.{range_with_len}
use Rattle.nav_ground.specs.declared.setting.Setting.{Setting}
use Rattle.nav_ground.specs.declared.field.Field.{Field}
use Rattle.nav_ground.specs.declared.cell.Cell.{Cell}
use Rattle.nav_ground.specs.declared.cell.Layer.{Layer}
use Rattle.nav_ground.specs.Cells.{next_level}
use Rattle.nav_ground.specs.Tiling.{tile_count, tile_window, widened, margin_of}
use Rattle.nav_ground.specs.Filters.{filtered_areas}
use Rattle.nav_ground.specs.Connection.{compact_cells}
use Rattle.nav_ground.specs.Clearance.{has_neighbour, kept_cells, cells_in}

-- the cells of a field for a setting's agent: on the spans that the filters leave walkable
unfoldable pub cells_of : Setting → Field → List Cell
cells_of setting field = compact_cells field (filtered_areas field setting.agent) setting.agent

-- those that keep the agent's radius from every boundary
abbrev pub kept_cells_of : Setting → Field → List Cell
kept_cells_of setting field = kept_cells (cells_of setting field) setting.agent.radius

-- a cell among kept cells names those of its neighbours that are kept, in its own tile and across its border
abbrev pub kept_level : List Cell → Cell → ℕ → Option ℕ
kept_level kept cell dir = if has_neighbour kept cell dir then next_level cell dir else None

-- a kept cell with those of its neighbours that are kept
abbrev pub layer_cell : List Cell → Cell → Cell
layer_cell kept cell = record cell {
  next = kept_level kept cell 0 ∷ kept_level kept cell 1 ∷ kept_level kept cell 2 ∷ kept_level kept cell 3 ∷ [];
}

-- the wide cells of a tile: where the setting says clear all cells of its columns and of those that agents keep from obstacles on each
-- side, with all their connections; else none
abbrev pub wide_cells : Setting → List Cell → ℕ → List Cell
wide_cells setting cells tile = if setting.clear then cells_in (widened (tile_window setting tile) (margin_of setting)) cells else []

-- the layer of a tile, from the cells of the field and the kept ones of them: the kept cells of its columns, in order, what agents keep from
-- obstacles, and the wide cells
abbrev pub layer_among : Setting → List Cell → List Cell → ℕ → Layer
layer_among setting cells kept tile = record {
  tile = tile;
  cells = map (layer_cell kept) (cells_in (tile_window setting tile) kept);
  radius = margin_of setting;
  wide = wide_cells setting cells tile;
}

-- the layer of a tile of a field
unfoldable pub layer_of : Setting → Field → ℕ → Layer
layer_of setting field tile = layer_among setting (cells_of setting field) (kept_cells_of setting field) tile

-- the layers of all tiles, in order
unfoldable pub layers_of : Setting → Field → List Layer
layers_of setting field = map (layer_of setting field) (range_with_len 0 (tile_count setting))
