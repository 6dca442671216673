use Rattle.std.proofs.Common.{◌≡◌, ◌≤◌, ◌++◌, ◌-◌, map, min}
use Rattle.std.specs.Prelude.{reverse}
use Rattle.std.specs.List.{range_with_len}
use Rattle.contour_walk.specs.Walk.{edge_at}
use Rattle.contour_walk.proofs.sides.push_tops.Given as goal

-- the edges of the columns so far, from the last on
abbrev pub invariant-loop-x : goal.invariant-loop-x
invariant-loop-x l =
    (min l.fn.first l.fn.end ≤ l.x)
    × (l.edges.items ≡ l.initial.edges.items ++ map (edge_at l.rim.table.now.window l.rim.cells.now l.rim.regions.now 1 l.strip) (reverse (range_with_len l.x (l.fn.end - l.x))))
