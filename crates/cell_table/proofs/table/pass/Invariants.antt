use Rattle.std.proofs.Common.{◌-◌, ◌≤◌, length}
use Rattle.cell_table.proofs.table.pass.Given as goal

abbrev pub invariant-loop-passed : goal.invariant-loop-passed
invariant-loop-passed l = l.passed ≤ length l.cells

abbrev pub decreases-loop-passed : goal.decreases-loop-passed
decreases-loop-passed l = length l.cells - l.passed
