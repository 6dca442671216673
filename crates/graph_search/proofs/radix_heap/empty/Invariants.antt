use Rattle.std.proofs.Common.{◌≡◌, ℕ, ◌<◌, [], length}
use Rattle.graph_search.specs.Entries.{list_at}
use Rattle.graph_search.proofs.radix_heap.empty.Given as goal

-- the lists so far have no entries, and they are as many as before
abbrev pub invariant-loop-slot : goal.invariant-loop-slot
invariant-loop-slot l = record {
  none : (k : ℕ) → k < l.slot → list_at l.lists.items k ≡ [];
  count : length l.lists.items ≡ length l.fn.lists.items;
}
