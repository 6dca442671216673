-- Cells that lists keep.
use Rattle.std.specs.Prelude.{List, All}
use Rattle.nav_ground.specs.declared.cell.Cell.{Cell}
use Rattle.nav_ground.specs.SmallCells.{IsSmall}

-- the numbers of each of the cells are small
pub record AreSmall (cells : List Cell) : Type 0 where
  pub each : All IsSmall cells
