use Rattle.std.proofs.Common.{◌≡◌, ◌++◌}
use Rattle.std.specs.Prelude.{drop}
use Rattle.contour_walk.specs.Walk.{edge_at, right_side}
use Rattle.contour_walk.proofs.sides.push_right_side.Given as goal

-- the edges so far and those of the strips that are left make the side
abbrev pub invariant-loop-k : goal.invariant-loop-k
invariant-loop-k l =
    l.edges.items ++ right_side (edge_at l.rim.table.now.window l.rim.cells.now l.rim.regions.now) (drop l.k l.strips)
    ≡ l.initial.edges.items ++ right_side (edge_at l.rim.table.now.window l.rim.cells.now l.rim.regions.now) l.strips
