use Rattle.std.proofs.Common.{◌≡◌, ◌++◌, take}
use Rattle.nav_ground.specs.CellRuns.{IsRunOf, cells_behind}
use Rattle.nav_ground.proofs.padded_cells.passed.Given as goal

-- as many cells came next
abbrev pub invariant-loop-cell : goal.invariant-loop-cell
invariant-loop-cell l = record {
  left : IsRunOf l.cells l.here.left;
  passed : cells_behind l.cells l.runs l.fn.spot ≡ take l.cell-index l.next ++ cells_behind l.cells l.runs l.here;
}
