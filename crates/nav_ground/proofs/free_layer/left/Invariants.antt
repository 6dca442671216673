use Rattle.std.proofs.Common.{◌≡◌, take}
use Rattle.nav_ground.specs.Marks.{cells_left}
use Rattle.nav_ground.proofs.free_layer.left.Given as goal

-- what the marks leave so far
abbrev pub invariant-loop-i : goal.invariant-loop-i
invariant-loop-i l = l.left.items ≡ cells_left (take l.i l.marks) (take l.i l.cells)
