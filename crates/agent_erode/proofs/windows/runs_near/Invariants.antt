use Rattle.std.proofs.Common.{◌≡◌, filter}
use Rattle.std.specs.Prelude.{◌&&◌, nat_lt, All}
use Rattle.nav_ground.specs.declared.cell.Cell.{Cell}
use Rattle.nav_ground.specs.CellRuns.{IsRunOf, cells_of_runs}
use Rattle.nav_ground.specs.Tiling.{widened, is_in_window}
use Rattle.agent_erode.proofs.windows.runs_near.Given as goal

-- the runs of the rows so far
abbrev pub invariant-loop-row : goal.invariant-loop-row
invariant-loop-row l = record {
  within : All (IsRunOf l.cells) l.runs.items;
  cells : cells_of_runs l.cells l.runs.items
      ≡ filter (λ (cell : Cell). nat_lt cell.at.z l.row && is_in_window (widened l.fn.window l.margin) cell.at.x cell.at.z) l.cells;
}
