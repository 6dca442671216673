use Rattle.std.proofs.Common.{ℕ, ◌≤◌, ◌<◌, length, get_or}
use Rattle.graph_search.specs.declared.radix_heap.HeapEntry.{HeapEntry}
use Rattle.graph_search.proofs.radix_heap.least.Given as goal

-- none so far is less
abbrev pub invariant-loop-place : goal.invariant-loop-place
invariant-loop-place l = record {
  there : l.found < length l.entries;
  least : (k : ℕ) (d e : HeapEntry) → k < l.place → (get_or l.entries l.found d).key ≤ (get_or l.entries k e).key;
}
