use Rattle.std.proofs.Common.{◌≡◌, drop}
use Rattle.build_queue.specs.BookState.{least_claimable}
use Rattle.agent_kinds.specs.Firsts.{first_claimable, first_in}
use Rattle.agent_kinds.proofs.builds.step_first.Given as goal

-- nothing is done in the kinds so far, and the first tile is in one of the others
abbrev pub invariant-loop-kind : goal.invariant-loop-kind
invariant-loop-kind g l = record {
  same : l.levels ≡ l.fn.levels;
  rest : first_in least_claimable l.kind (drop l.kind l.fn.levels) ≡ first_claimable l.fn.levels;
}
