use Rattle.std.proofs.Common.{◌≡◌, take}
use Rattle.nav_ground.specs.CellRuns.{cells_of_runs}
use Rattle.nav_ground.proofs.padded_cells.gathered.Given as goal

-- the cells of the runs so far
abbrev pub invariant-loop-run : goal.invariant-loop-run
invariant-loop-run l = l.gathered.items ≡ cells_of_runs l.cells (take l.run-index l.runs)
