use Rattle.crowd_moves.specs.Pairs.{HasSizes}
use Rattle.crowd_step.proofs.PlacedLaws.{AreAllSo}
use Rattle.crowd_step.proofs.sights.wide_agents.Given as goal

-- the agents so far are wide
abbrev pub invariant-loop-i : goal.invariant-loop-i
invariant-loop-i l = AreAllSo HasSizes l.wide.items l.i
