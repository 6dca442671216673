use Rattle.std.proofs.Common.{◌≡◌, drop}
use Rattle.build_queue.specs.BookState.{least_awaited}
use Rattle.agent_kinds.specs.Firsts.{first_awaited, first_in}
use Rattle.agent_kinds.proofs.publish.first_awaited.Given as goal

-- the first tile that is awaited is in none of the kinds so far
abbrev pub invariant-loop-kind : goal.invariant-loop-kind
invariant-loop-kind l = record {
  same : l.levels ≡ l.fn.levels;
  rest : first_in least_awaited l.kind (drop l.kind l.fn.levels) ≡ first_awaited l.fn.levels;
}
