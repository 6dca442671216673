-- CellColumns: the cells of one column, and lists of cells in order.
use Rattle.std.specs.Prelude.{ℕ, Bool, ◌==◌, ◌&&◌, ◌||◌, nat_lt, List, AllPairs}
use Rattle.nav_ground.specs.declared.cell.Cell.{Cell}
use Rattle.nav_ground.specs.Cells.{IsCellBefore}

-- a cell stands in the column
abbrev pub is_in_column : ℕ → ℕ → Cell → Bool
is_in_column x z cell = cell.at.x == x && cell.at.z == z

-- a cell comes before a column, in the order of cells
abbrev pub is_before_column : ℕ → ℕ → Cell → Bool
is_before_column x z cell = nat_lt cell.at.z z || (cell.at.z == z && nat_lt cell.at.x x)

-- the cells stand in order
abbrev pub AreOrdered : List Cell → Type 0
AreOrdered cells = AllPairs (λ (a b : Cell). IsCellBefore a.at b.at) cells
