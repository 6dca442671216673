use Rattle.build_queue.specs.StepContracts.{IsRenewStep}
use Rattle.agent_kinds.proofs.Turns.{HaveTurned}
use Rattle.agent_kinds.proofs.levels.begin_all_again.Given as goal

-- the levels so far have begun again
abbrev pub invariant-loop-level : goal.invariant-loop-level
invariant-loop-level l = HaveTurned IsRenewStep l.level-index l.fn.levels l.levels
