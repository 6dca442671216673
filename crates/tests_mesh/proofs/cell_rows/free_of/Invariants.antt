use Rattle.std.proofs.Common.{◌≡◌, take, map}
use Rattle.tests_mesh.specs.Rows.{cell_of}
use Rattle.tests_mesh.proofs.cell_rows.free_of.Given as goal

-- the cells so far
abbrev pub invariant-loop-row : goal.invariant-loop-row
invariant-loop-row l = l.cells.items ≡ map cell_of (take l.row-index l.rows)
