use Rattle.std.proofs.Common.{◌≡◌, ◌<◌, ◌≤◌, false, length}
use Rattle.std.specs.Prelude.{slice_index_or}
use Rattle.nav_ground.specs.declared.cell.Cell.{Cell}
use Rattle.cell_table.specs.Columns.{is_before}
use Rattle.cell_table.proofs.table.cells_before.Given as goal

-- the cell at hand does not come before the column and the level
abbrev pub invariant-loop-least : goal.invariant-loop-least
invariant-loop-least l = record {
  most : l.least ≤ length l.cells;
  next : (d : Cell) → l.least < length l.cells → is_before l.column l.level (slice_index_or l.cells l.least d).at ≡ false;
}

abbrev pub decreases-loop-least : goal.decreases-loop-least
decreases-loop-least l = l.least
