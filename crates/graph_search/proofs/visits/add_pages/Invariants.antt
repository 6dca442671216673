use Rattle.std.proofs.Common.{◌+◌, ◌-◌, vec_len}
use Rattle.graph_search.specs.Visited.{KnowsAlike}
use Rattle.graph_search.proofs.visits.add_pages.Given as goal

-- the pages so far know what the first ones know
abbrev pub invariant-loop-alloc : goal.invariant-loop-alloc
invariant-loop-alloc l = KnowsAlike l.fn.pages.items l.pages.items

abbrev pub decreases-loop-alloc : goal.decreases-loop-alloc
decreases-loop-alloc l = l.block + 1 - vec_len l.pages
