use Rattle.std.proofs.Common.{◌≡◌, ◌≤◌, length}
use Rattle.std.specs.Prelude.{All}
use Rattle.build_queue.specs.BookState.{BookState}
use Rattle.build_queue.specs.Steps.{after_aim}
use Rattle.agent_kinds.proofs.Turns.{HaveTurned, IsStepBy}
use Rattle.agent_kinds.proofs.levels.aim_all.Given as goal

-- the levels so far are aimed, and the last length is that of all
abbrev pub invariant-loop-level : goal.invariant-loop-level
invariant-loop-level l = record {
  turned : HaveTurned (IsStepBy after_aim) l.level-index l.fn.levels l.levels;
  told : 1 ≤ l.level-index → All (λ (state : BookState). l.length ≡ length state.history) l.fn.levels;
}
