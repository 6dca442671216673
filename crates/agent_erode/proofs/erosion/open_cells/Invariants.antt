use Rattle.std.proofs.Common.{◌≡◌, take}
use Rattle.nav_ground.specs.Clearance.{marked}
use Rattle.agent_erode.proofs.erosion.open_cells.Given as goal

-- the open cells so far
abbrev pub invariant-loop-i : goal.invariant-loop-i
invariant-loop-i l = l.chosen.items ≡ marked (take l.i l.cells) (take l.i l.uncovered)
