use Rattle.crowd_filter.proofs.StepParts.{HaveMovedSo}
use Rattle.crowd_filter.proofs.steps.make_moves.Given as goal

-- the agents so far have moved
abbrev pub invariant-loop-i : goal.invariant-loop-i
invariant-loop-i l = HaveMovedSo l.mesh l.placed l.moves l.i l.agents
