use Rattle.std.proofs.Common.{◌≡◌, take, map}
use Rattle.tests_ground.specs.Rows.{whole_cell_of}
use Rattle.tests_ground.proofs.rows.whole_cells_of.Given as goal

-- the cells so far
abbrev pub invariant-loop-row : goal.invariant-loop-row
invariant-loop-row l = l.cells.items ≡ map whole_cell_of (take l.row-index l.rows)
