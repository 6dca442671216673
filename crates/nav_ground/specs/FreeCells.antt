-- Free cells: what a list of obstacles leaves of a layer.
use Rattle.std.specs.Prelude.{ℕ, Bool, false, not, ◌&&◌, ◌||◌, ◌==◌, if◌then◌else◌, List, [], ◌∷◌, map, filter, Option, None, is_none, unwrap_or}
use Rattle.std.specs.List.{list_any, filter_map, last_or}
use Rattle.nav_ground.specs.declared.cell.Cell.{Cell}
use Rattle.nav_ground.specs.declared.cell.CellRef.{CellRef}
use Rattle.nav_ground.specs.declared.cell.Layer.{Layer}
use Rattle.nav_ground.specs.declared.cell.FreeLayer.{FreeLayer}
use Rattle.nav_ground.specs.declared.shape.Shape.{Shape}
use Rattle.nav_ground.specs.Cells.{is_naming, next_level}
use Rattle.nav_ground.specs.Shapes.{is_covering, area_set_by}
use Rattle.nav_ground.specs.Clearance.{kept_cells, places_of}

-- a shape covers a cell
abbrev pub is_over : Cell → Shape → Bool
is_over cell shape = is_covering shape cell.at.x cell.at.z cell.floor

-- some shape that stops agents covers the cell
abbrev pub is_blocked : List Shape → Cell → Bool
is_blocked shapes cell = list_any (λ (shape : Shape). is_none (area_set_by shape) && is_over cell shape) shapes

-- no shape that stops agents covers the cell
abbrev pub is_unblocked : List Shape → Cell → Bool
is_unblocked shapes cell = not (is_blocked shapes cell)

-- the places of the wide cells of a layer that no shape blocks and that keep the layer's radius among those that none blocks
abbrev pub clear_places : Layer → List Shape → List CellRef
clear_places layer shapes = places_of (kept_cells (filter (is_unblocked shapes) layer.wide) layer.radius)

-- two places are the same
abbrev pub is_same_place : CellRef → CellRef → Bool
is_same_place a b = a.x == b.x && (a.z == b.z && a.level == b.level)

-- a cell of a layer is too near a shape where the layer has a radius and the cell's place is not one of those
abbrev pub is_crowded : Layer → List Shape → Cell → Bool
is_crowded layer shapes cell = if layer.radius == 0 then false else not (list_any (is_same_place cell.at) (clear_places layer shapes))

-- a cell of a layer is taken where it is too near a shape or one blocks it, else it is free
abbrev pub is_taken : Layer → List Shape → Cell → Bool
is_taken layer shapes cell = is_crowded layer shapes cell || is_blocked shapes cell

-- the area that a shape gives a cell, if it covers the cell and sets areas
abbrev pub area_given : Cell → Shape → Option ℕ
area_given cell shape = if is_over cell shape then area_set_by shape else None

-- the area of a cell under the shapes: that of the last area shape that covers it, and its own where none does
abbrev pub area_under : List Shape → Cell → ℕ
area_under shapes cell = unwrap_or (last_or None (filter_map (area_given cell) shapes)) cell.area

-- the level that a free cell names in a direction, if it keeps that neighbour
abbrev pub free_next : (Cell → Bool) → List Cell → Cell → ℕ → Option ℕ
free_next taken cells cell dir = if list_any (λ (other : Cell). is_naming dir cell other.at && taken other) cells then None else next_level cell dir

-- a free cell keeps its neighbours that are free cells of its layer, or cells of other tiles
abbrev pub free_cell_of : (Cell → Bool) → List Cell → List Shape → Cell → Cell
free_cell_of taken cells shapes cell = record cell {
  area = area_under shapes cell;
  next = free_next taken cells cell 0 ∷ free_next taken cells cell 1 ∷ free_next taken cells cell 2 ∷ free_next taken cells cell 3 ∷ [];
}

-- the free cells of a layer for a list of shapes: its cells that are not taken, in order
abbrev pub free_layer_of : Layer → List Shape → FreeLayer
free_layer_of layer shapes = record {
  tile = layer.tile;
  cells = map (free_cell_of (is_taken layer shapes) layer.cells shapes) (filter (λ (cell : Cell). not (is_taken layer shapes cell)) layer.cells);
}
