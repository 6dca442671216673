use Rattle.crowd_moves.proofs.FindingLaws.{AreListed}
use Rattle.crowd_moves.proofs.contacts.find_contacts.Given as goal

-- the agents so far have their lists
abbrev pub invariant-loop-i : goal.invariant-loop-i
invariant-loop-i l = AreListed l.agents l.first.items l.others.items l.i
