use Rattle.std.proofs.Common.{◌≡◌, take, map}
use Rattle.cell_table.specs.Table.{indices_named}
use Rattle.cell_table.proofs.table.neighbour_table.Given as goal

-- the rows so far
abbrev pub invariant-loop-cell : goal.invariant-loop-cell
invariant-loop-cell l = l.table.items ≡ map (indices_named l.cells) (take l.cell-index l.cells)
