use Rattle.std.proofs.Common.{◌≡◌, ◌-◌, length}
use Rattle.nav_ground.specs.CellRuns.{IsRunOf, cells_behind}
use Rattle.nav_ground.proofs.padded_cells.at_cell.Given as goal

-- the same cells are left
abbrev pub invariant-loop-left : goal.invariant-loop-left
invariant-loop-left l = record {
  left : IsRunOf l.cells l.left;
  same : cells_behind l.cells l.runs (record { left = l.left; begun = l.begun }) ≡ cells_behind l.cells l.runs l.fn.spot;
}

abbrev pub decreases-loop-left : goal.decreases-loop-left
decreases-loop-left l = length l.runs - l.begun
