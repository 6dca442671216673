use Rattle.crowd_filter.proofs.StepParts.{ArePlacedSo}
use Rattle.crowd_filter.proofs.steps.placed_anew.Given as goal

-- the agents so far are placed
abbrev pub invariant-loop-i : goal.invariant-loop-i
invariant-loop-i l = ArePlacedSo l.mesh l.agents l.i l.placed.items
