use Rattle.std.proofs.Common.{◌≡◌, ◌<◌, ◌≤◌, length, get_or, None, ap, ◌∙◌, sym, arith}
use Rattle.build_queue.specs.BookState.{least_awaited}
use Rattle.agent_kinds.proofs.Awaited.{none_yet, not_yet}
use Rattle.agent_kinds.proofs.Places.{found_here, here_is, not_here, nowhere, same_here}
use Rattle.agent_kinds.proofs.publish.first_awaited.Goals as goal

pub returns-in-NotYet-clause-found : goal.returns-in-NotYet-clause-found
returns-in-NotYet-clause-found c =
    let there : c.loop-kind.kind < length c.args.levels.now = omega (arith, c.loop-kind-test.true) in
    let here = here_is c.args.levels.now c.loop-kind.levels c.loop-kind.kind c.index-levels-kind.result c.loop-kind.invariant.same in
    sym (found_here least_awaited c.args.levels.now c.loop-kind.kind c.index-levels-kind.result c.in-NotYet.tile there
    (sym (ap least_awaited here) ∙ not_yet (get_or c.loop-kind.levels c.loop-kind.kind c.index-levels-kind.result) c.in-NotYet.tile c.in-NotYet.ensures.answer))
    ∙ c.loop-kind.invariant.rest

pub loop-kind-preserved : goal.loop-kind-preserved
loop-kind-preserved c =
    let there : c.loop-kind.kind < length c.args.levels.now = omega (arith, c.loop-kind-test.true) in
    let here = here_is c.args.levels.now c.loop-kind.levels c.loop-kind.kind c.index-levels-kind.result c.loop-kind.invariant.same in
    let none : least_awaited (get_or c.loop-kind.levels c.loop-kind.kind c.index-levels-kind.result) ≡ None = none_yet (get_or c.loop-kind.levels c.loop-kind.kind c.index-levels-kind.result) c.publication.result c.publication.ensures.answer c.in_default.not-NotYet in
    record {
      same = same_here c.args.levels.now c.loop-kind.levels c.loop-kind.kind c.index-levels-kind.result c.loop-kind.invariant.same c.publication.new.self
          c.publication.ensures.same;
      rest = not_here least_awaited c.args.levels.now c.loop-kind.kind c.index-levels-kind.result there (sym (ap least_awaited here) ∙ none)
          ∙ c.loop-kind.invariant.rest;
    }

pub returns-clause-found : goal.returns-clause-found
returns-clause-found c =
    let past : length c.args.levels.now ≤ c.loop-kind.kind = omega (arith, c.loop-kind-test.false) in
    sym (nowhere least_awaited c.args.levels.now c.loop-kind.kind past) ∙ c.loop-kind.invariant.rest
