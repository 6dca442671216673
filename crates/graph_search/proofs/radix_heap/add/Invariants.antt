use Rattle.std.proofs.Common.{◌+◌, ◌-◌, vec_len}
use Rattle.graph_search.specs.Entries.{AreAlike}
use Rattle.graph_search.proofs.radix_heap.add.Given as goal

-- only empty lists came
abbrev pub invariant-loop-alloc : goal.invariant-loop-alloc
invariant-loop-alloc l = AreAlike l.fn.lists.items l.lists.items

abbrev pub decreases-loop-alloc : goal.decreases-loop-alloc
decreases-loop-alloc l = l.slot + 1 - vec_len l.lists
