use Rattle.std.proofs.Common.{◌≡◌, ◌++◌, map, take}
use Rattle.graph_search.specs.Walks.{ends_of}
use Rattle.tests_base.specs.Rows.{pair_arc}
use Rattle.tests_base.proofs.walks.push_row.Given as goal

-- the ends of the arcs so far
abbrev pub invariant-loop-pair : goal.invariant-loop-pair
invariant-loop-pair l = l.ends.items ≡ l.fn.ends.items ++ ends_of (map pair_arc (take l.pair-index l.row))
