use Rattle.std.proofs.Common.{◌≡◌, ◌≤◌}
use Rattle.std.specs.Prelude.{All}
use Rattle.build_queue.specs.BookState.{BookState}
use Rattle.build_queue.specs.Steps.{request_answer, requested}
use Rattle.agent_kinds.proofs.Turns.{HaveTurned, IsStepBy}
use Rattle.agent_kinds.proofs.levels.request_all.Given as goal

-- the levels so far have the entry, and the last answer is that of all
abbrev pub invariant-loop-level : goal.invariant-loop-level
invariant-loop-level l = record {
  turned : HaveTurned (IsStepBy (λ (state : BookState). requested state l.lane l.request)) l.level-index l.fn.levels l.levels;
  told : 1 ≤ l.level-index → All (λ (state : BookState). l.answer ≡ request_answer state l.request) l.fn.levels;
}
