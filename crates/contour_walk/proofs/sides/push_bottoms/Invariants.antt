use Rattle.std.proofs.Common.{◌≡◌, ◌≤◌, ◌++◌, ◌-◌, map, max}
use Rattle.std.specs.List.{range_with_len}
use Rattle.contour_walk.specs.Walk.{edge_at}
use Rattle.contour_walk.proofs.sides.push_bottoms.Given as goal

-- the edges of the columns so far
abbrev pub invariant-loop-x : goal.invariant-loop-x
invariant-loop-x l =
    (l.x ≤ max l.fn.first l.fn.end)
    × (l.edges.items ≡ l.initial.edges.items ++ map (edge_at l.rim.table.now.window l.rim.cells.now l.rim.regions.now 3 l.strip) (range_with_len l.fn.first (l.x - l.fn.first)))
