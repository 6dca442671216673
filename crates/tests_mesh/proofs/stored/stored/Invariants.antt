use Rattle.std.proofs.Common.{◌≡◌, take}
use Rattle.tests_mesh.proofs.stored.stored.Given as goal

-- the cells so far
abbrev pub invariant-loop-cell : goal.invariant-loop-cell
invariant-loop-cell l = l.stored.items ≡ take l.cell-index l.cells
