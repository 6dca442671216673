use Rattle.std.proofs.Common.{◌≡◌, length}
use Rattle.tests_ground.proofs.open_cells.all_but.Given as goal

-- a truth value for each cell so far
abbrev pub invariant-loop-cell : goal.invariant-loop-cell
invariant-loop-cell l = length l.marks.items ≡ l.cell-index
