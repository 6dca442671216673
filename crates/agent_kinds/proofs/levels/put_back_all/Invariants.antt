use Rattle.build_queue.specs.Steps.{after_put_back_all}
use Rattle.agent_kinds.proofs.Turns.{HaveTurned, IsStepBy}
use Rattle.agent_kinds.proofs.levels.put_back_all.Given as goal

-- no tile of the levels so far is claimed
abbrev pub invariant-loop-level : goal.invariant-loop-level
invariant-loop-level l = HaveTurned (IsStepBy after_put_back_all) l.level-index l.fn.levels l.levels
