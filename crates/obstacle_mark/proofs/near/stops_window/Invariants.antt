use Rattle.std.proofs.Common.{take}
use Rattle.obstacle_mark.specs.Near.{HoldsBlocked}
use Rattle.obstacle_mark.proofs.near.stops_window.Given as goal

-- the rectangle holds what the obstacles so far block
abbrev pub invariant-loop-shape : goal.invariant-loop-shape
invariant-loop-shape l = HoldsBlocked (take l.shape-index l.shapes) l.hull
