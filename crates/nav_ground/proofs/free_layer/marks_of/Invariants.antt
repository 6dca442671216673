use Rattle.std.proofs.Common.{◌≡◌, ◌≤◌, length, take}
use Rattle.nav_ground.specs.Marks.{cells_left}
use Rattle.nav_ground.proofs.free_layer.marks_of.Given as goal

-- the marks so far leave the free cells that are passed
abbrev pub invariant-loop-cell : goal.invariant-loop-cell
invariant-loop-cell l = record {
  count : length l.marks.items ≡ l.cell-index;
  within : l.passed ≤ length l.free;
  left : cells_left l.marks.items (take l.cell-index l.cells) ≡ take l.passed l.free;
}
