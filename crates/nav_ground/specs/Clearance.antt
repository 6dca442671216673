-- Clearance: how far the cells of a list are from its boundary cells, by walks along their connections.
use Rattle.std.specs.Prelude.{ℕ, zero, suc, ◌+◌, ◌*◌, ◌%◌, Bool, false, not, ◌&&◌, ◌||◌, if◌then◌else◌, List, [], ◌∷◌, map, filter}
use Rattle.std.specs.List.{list_any, range_with_len}
use Rattle.nav_ground.specs.declared.cell.Cell.{Cell}
use Rattle.nav_ground.specs.declared.cell.CellRef.{CellRef}
use Rattle.nav_ground.specs.declared.cell.Window.{Window}
use Rattle.nav_ground.specs.Cells.{is_naming}
use Rattle.nav_ground.specs.Tiling.{is_in_window}

-- a cell is connected to a cell of the list in a direction
abbrev pub has_neighbour : List Cell → Cell → ℕ → Bool
has_neighbour cells cell dir = list_any (λ (other : Cell). is_naming dir cell other.at) cells

-- a boundary cell has fewer than four connections to cells of the list
abbrev pub is_boundary : List Cell → Cell → Bool
is_boundary cells cell = not (has_neighbour cells cell 0 && has_neighbour cells cell 1 && has_neighbour cells cell 2 && has_neighbour cells cell 3)

-- an axis step follows one connection
abbrev pub is_axis_step : Cell → Cell → Bool
is_axis_step from to = list_any (λ dir. is_naming dir from to.at) (0 ∷ 1 ∷ 2 ∷ 3 ∷ [])

-- a diagonal step follows two successive connections in perpendicular directions, over a cell of the list
abbrev pub is_turn : Cell → Cell → Cell → Bool
is_turn from by to =
    list_any (λ dir. is_naming dir from by.at && (is_naming ((dir + 1) % 4) by to.at || is_naming ((dir + 3) % 4) by to.at)) (0 ∷ 1 ∷ 2 ∷ 3 ∷ [])

-- a diagonal step leads over some cell of the list
abbrev pub is_diagonal_step : List Cell → Cell → Cell → Bool
is_diagonal_step cells from to = list_any (λ (by : Cell). is_turn from by to) cells

-- a walk of a cost ends at a cell: it begins at a boundary cell and costs nothing, or its last step is an axis step, which costs 2, or a
-- diagonal step, which costs 3, from a cell where a walk of the remaining cost ends
unfoldable pub is_walk_end : List Cell → ℕ → Cell → Bool
is_walk_end cells zero to = is_boundary cells to
is_walk_end cells (suc zero) to = false
is_walk_end cells (suc (suc zero)) to = list_any (λ (from : Cell). is_axis_step from to && is_walk_end cells zero from) cells
is_walk_end cells (suc (suc (suc cost))) to =
    list_any (λ (from : Cell). is_axis_step from to && is_walk_end cells (suc cost) from
    || is_diagonal_step cells from to && is_walk_end cells cost from) cells

-- a cell is kept for a radius where its clearance, the least cost of such a walk, is at least twice the radius: no cheaper walk ends there,
-- which is also so where no walk does
abbrev pub is_kept : List Cell → ℕ → Cell → Bool
is_kept cells radius cell = not (list_any (λ cost. is_walk_end cells cost cell) (range_with_len 0 (2 * radius)))

-- the cells of a list that are kept for a radius, in order
abbrev pub kept_cells : List Cell → ℕ → List Cell
kept_cells cells radius = filter (is_kept cells radius) cells

-- the cells of a list beside which a mark is true
abbrev pub marked : List Cell → List Bool → List Cell
marked [] marks = []
marked (cell ∷ cells) [] = []
marked (cell ∷ cells) (mark ∷ marks) = if mark then cell ∷ marked cells marks else marked cells marks

-- the places of cells
abbrev pub places_of : List Cell → List CellRef
places_of cells = map (λ (cell : Cell). cell.at) cells

-- the cells in a rectangle of columns
abbrev pub cells_in : Window → List Cell → List Cell
cells_in window cells = filter (λ (cell : Cell). is_in_window window cell.at.x cell.at.z) cells
