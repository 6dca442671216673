use Rattle.crowd_moves.specs.Finding.{AddsOfEntries}
use Rattle.crowd_moves.proofs.contacts.push_entries.Given as goal

-- those near of the entries so far came
abbrev pub invariant-loop-k : goal.invariant-loop-k
invariant-loop-k l = AddsOfEntries l.agents l.entries l.i l.begin l.k l.fn.others.items l.others.items
