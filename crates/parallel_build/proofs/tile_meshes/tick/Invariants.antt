use Rattle.std.proofs.Common.{◌≡◌, ◌+◌}
use Rattle.parallel_build.proofs.tile_meshes.tick.Given as goal

-- a step was counted for each round so far
abbrev pub invariant-loop-step : goal.invariant-loop-step
invariant-loop-step g l = l.steps ≡ l.fn.steps + l._step
