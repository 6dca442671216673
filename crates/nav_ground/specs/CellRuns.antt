-- CellRuns: lists of cells whose parts stand in a longer list.
use Rattle.std.specs.Prelude.{◌≡◌, ◌<◌, ◌≤◌, ◌++◌, List, [], ◌∷◌, length, slice_range, slice_index_or, drop, Option, Some, None}
use Rattle.nav_ground.specs.declared.cell.Cell.{Cell}
use Rattle.nav_ground.specs.declared.padded_cells.CellRun.{CellRun}
use Rattle.nav_ground.specs.declared.padded_cells.RunCursor.{RunCursor}

-- a run stands in a list
pub record IsRunOf (cells : List Cell) (run : CellRun) : Type 0 where
  pub order : run.from ≤ run.to
  pub within : run.to ≤ length cells

-- the cells of a run
abbrev pub cells_of_run : List Cell → CellRun → List Cell
cells_of_run cells run = slice_range cells run.from run.to

-- the cells of some runs, one run after the other
abbrev pub cells_of_runs : List Cell → List CellRun → List Cell
cells_of_runs cells [] = []
cells_of_runs cells (run ∷ runs) = cells_of_run cells run ++ cells_of_runs cells runs

-- a run begins with a cell
abbrev pub IsFirst : List Cell → CellRun → Cell → Type 0
IsFirst cells run first = (run.from < run.to) × (slice_index_or cells run.from first ≡ first)

-- the list of which cells are runs; without one there are no cells
abbrev pub list_under : Option (List Cell) → List Cell
list_under None = []
list_under (Some cells) = cells

-- the cells behind a place among runs: what is left of the run at hand, and the runs that are not begun
abbrev pub cells_behind : List Cell → List CellRun → RunCursor → List Cell
cells_behind cells runs spot = cells_of_run cells spot.left ++ cells_of_runs cells (drop spot.begun runs)

-- whether some cells come next in a list: with a place, they do and the cells behind it come after them; without one, they do not
abbrev pub HasPassed : List Cell → List CellRun → List Cell → List Cell → Option RunCursor → Type 0
HasPassed cells runs list next (Some spot) = list ≡ next ++ cells_behind cells runs spot
HasPassed cells runs list next None = (behind : List Cell) → list ≡ next ++ behind → ⊥
