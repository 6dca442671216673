-- Strips: maximal runs of connected cells of one area in one row.
use Rattle.std.specs.Prelude.{ℕ, zero, suc, ◌+◌, ◌-◌, Bool, not, ◌==◌, ◌&&◌, List, [], ◌∷◌, length, map, filter}
use Rattle.std.specs.List.{find, list_any}
use Rattle.std.specs.Option.{option_map_or}
use Rattle.nav_ground.specs.declared.cell.Cell.{Cell}
use Rattle.nav_ground.specs.Cells.{is_naming}
use Rattle.mesh_types.specs.declared.region.Strip.{Strip}

-- one cell is followed by another in a strip: it is connected to it toward x + 1, and both have one area
abbrev pub is_followed_by : Cell → Cell → Bool
is_followed_by cell next = is_naming 2 cell next.at && next.area == cell.area

-- a strip begins at a cell that follows no cell
abbrev pub begins_strip : List Cell → Cell → Bool
begins_strip cells cell = not (list_any (λ (other : Cell). is_followed_by other cell) cells)

-- a cell and those that follow it one after the other, at most so many
unfoldable pub run_from : List Cell → ℕ → Cell → List Cell
run_from cells zero cell = cell ∷ []
run_from cells (suc most) cell = cell ∷ option_map_or (run_from cells most) (find (is_followed_by cell) cells) []

-- the cells of the strip that begins at a cell
abbrev pub strip_cells : List Cell → Cell → List Cell
strip_cells cells first = run_from cells (length cells) first

-- the first cells of the strips, in order
abbrev pub strip_firsts : List Cell → List Cell
strip_firsts cells = filter (begins_strip cells) cells

-- a strip of cells: its row, its columns, its levels and its area
abbrev pub strip_of : Cell → List Cell → Strip
strip_of first run = record {
  z = first.at.z;
  x0 = first.at.x;
  x1 = first.at.x + length run - 1;
  levels = map (λ (cell : Cell). cell.at.level) run;
  area = first.area;
}

-- the strips of the cells of a tile, in order of z, x0 and the level of the first cell
abbrev pub strips_of : List Cell → List Strip
strips_of cells = map (λ (first : Cell). strip_of first (strip_cells cells first)) (strip_firsts cells)
