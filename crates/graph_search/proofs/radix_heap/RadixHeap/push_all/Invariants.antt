use Rattle.std.proofs.Common.{◌≡◌, ◌++◌, take}
use Rattle.std.specs.List.Sorted.{IsPermutation}
use Rattle.graph_search.proofs.radix_heap.RadixHeap.push_all.Given as goal

-- the entries so far came
abbrev pub invariant-loop-entry : goal.invariant-loop-entry
invariant-loop-entry l = record {
  added : IsPermutation (take l.entry-index l.entries ++ l.fn.self.entries) l.self.entries;
  last : l.self.last ≡ l.fn.self.last;
}
