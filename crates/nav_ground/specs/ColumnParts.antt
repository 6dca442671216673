-- ColumnParts: where the cells of a column stand among ordered cells.
use Rattle.std.specs.Prelude.{◌≡◌, ℕ, ◌+◌, ◌≤◌, true, false, List, length}
use Rattle.std.proofs.Common.{drop}
use Rattle.std.specs.List.Sorted.{IsPartitionPoint}
use Rattle.nav_ground.specs.declared.cell.Cell.{Cell}
use Rattle.nav_ground.specs.declared.cell.ColumnCells.{ColumnCells}
use Rattle.nav_ground.specs.CellColumns.{is_before_column, is_in_column}

-- the cells before a part come before the column, those of the part stand in it, and those behind it stand in later ones
pub record IsPartOf (x z : ℕ) (cells : List Cell) (part : ColumnCells) : Type 0 where
  pub within : part.first + part.count ≤ length cells
  pub before : IsPartitionPoint (λ (cell : Cell). is_before_column x z cell ≡ true) (λ (cell : Cell). is_before_column x z cell ≡ false) cells part.first
  pub inside : IsPartitionPoint (λ (cell : Cell). is_in_column x z cell ≡ true) (λ (cell : Cell). is_in_column x z cell ≡ false) (drop part.first cells) part.count
