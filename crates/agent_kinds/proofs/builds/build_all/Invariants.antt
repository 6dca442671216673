use Rattle.agent_kinds.proofs.Built.{IsBuilt}
use Rattle.agent_kinds.proofs.Turns.{HaveTurned}
use Rattle.agent_kinds.proofs.builds.build_all.Given as goal

-- the levels so far are built
abbrev pub invariant-loop-level : goal.invariant-loop-level
invariant-loop-level g l = HaveTurned IsBuilt l.level-index l.fn.levels l.levels
