use Rattle.crowd_step.proofs.OrderLaws.{AreEnteredSo}
use Rattle.crowd_step.proofs.ranks.entries_of.Given as goal

-- the places so far have entries
abbrev pub invariant-loop-i : goal.invariant-loop-i
invariant-loop-i l = AreEnteredSo l.entries.items l.i
