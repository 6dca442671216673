use Rattle.std.proofs.Common.{◌≡◌, ◌++◌, take}
use Rattle.nav_ground.specs.CellRuns.{IsRunOf, cells_of_runs, cells_behind}
use Rattle.nav_ground.proofs.padded_cells.are_same_runs.Given as goal

-- the cells of so many runs came first in the other list
abbrev pub invariant-loop-run : goal.invariant-loop-run
invariant-loop-run l = record {
  left : IsRunOf l.others l.spot.left;
  passed : cells_of_runs l.others l.other_runs ≡ cells_of_runs l.cells (take l.run-index l.runs) ++ cells_behind l.others l.other_runs l.spot;
}
