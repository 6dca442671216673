use Rattle.std.proofs.Common.{◌≡◌, drop}
use Rattle.build_queue.specs.Steps.{next_job}
use Rattle.agent_kinds.specs.Firsts.{first_in, first_job}
use Rattle.agent_kinds.proofs.builds.claim_first.Given as goal

-- nothing is done in the kinds so far, and the first job is in one of the others
abbrev pub invariant-loop-kind : goal.invariant-loop-kind
invariant-loop-kind l = record {
  same : l.levels ≡ l.fn.levels;
  rest : first_in next_job l.kind (drop l.kind l.fn.levels) ≡ first_job l.fn.levels;
}
