use Rattle.std.proofs.Common.{◌≡◌}
use Rattle.cell_table.proofs.Mutuals.{rows_until}
use Rattle.cell_table.proofs.table.mutual_table.Given as goal

-- the rows so far, with what names back among the cells so far
abbrev pub invariant-loop-i : goal.invariant-loop-i
invariant-loop-i l = l.table.items ≡ rows_until l.cells l.i
