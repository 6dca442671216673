use Rattle.std.proofs.Common.{◌≡◌, ◌++◌}
use Rattle.std.specs.Prelude.{drop}
use Rattle.contour_walk.specs.Walk.{edge_at, left_side}
use Rattle.contour_walk.proofs.sides.push_left_side.Given as goal

-- the side of the strips so far, from the last on
abbrev pub invariant-loop-k : goal.invariant-loop-k
invariant-loop-k l = l.edges.items ≡ l.initial.edges.items ++ left_side (edge_at l.rim.table.now.window l.rim.cells.now l.rim.regions.now) (drop l.k l.strips)
