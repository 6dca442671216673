use Rattle.ray_walk.specs.Walking.{IsFirstBefore}
use Rattle.ray_walk.proofs.exits.first_exit.Given as goal

-- the first exit of least fraction among the edges so far
abbrev pub invariant-loop-edge : goal.invariant-loop-edge
invariant-loop-edge l = IsFirstBefore l.polygon l.ray l.edge l.first
