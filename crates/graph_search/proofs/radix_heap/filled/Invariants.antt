use Rattle.std.proofs.Common.{◌≡◌, ℕ, ◌-◌, ◌≤◌, ◌<◌, [], length}
use Rattle.graph_search.specs.Entries.{list_at}
use Rattle.graph_search.proofs.radix_heap.filled.Given as goal

-- the lists so far have no entries
abbrev pub invariant-loop-slot : goal.invariant-loop-slot
invariant-loop-slot l = (k : ℕ) → l.fn.first ≤ k → k < l.slot → list_at l.lists k ≡ []

abbrev pub decreases-loop-slot : goal.decreases-loop-slot
decreases-loop-slot l = length l.lists - l.slot
