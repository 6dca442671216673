use Rattle.fine_walk.specs.Passing.{IsFirstBefore}
use Rattle.fine_walk.proofs.exits.least_exit.Given as goal

-- the first exit of least fraction among the edges so far
abbrev pub invariant-loop-edge : goal.invariant-loop-edge
invariant-loop-edge l = IsFirstBefore l.polygon l.ray l.edge l.first
