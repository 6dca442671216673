use Rattle.std.proofs.Common.{◌<◌, ◌≤◌, ℕ, length, get_or, Option, ap, ◌∙◌, sym, arith}
use Rattle.build_queue.specs.BookState.{least_claimable}
use Rattle.nav_book.specs.Settling.{after_step}
use Rattle.agent_kinds.specs.Firsts.{at_found}
use Rattle.agent_kinds.proofs.AtOne.{common_of}
use Rattle.agent_kinds.proofs.Commons.{idle_step, stepped_common}
use Rattle.agent_kinds.proofs.Places.{found_here, here_is, kinds_here, not_here, nowhere, same_here, written_here}
use Rattle.agent_kinds.proofs.builds.step_first.Goals as goal

pub returns-in-Some-clause-found : goal.returns-in-Some-clause-found
returns-in-Some-clause-found g c =
    let there : c.loop-kind.kind < length c.args.levels.now = omega (arith, c.loop-kind-test.true) in
    let here = here_is c.args.levels.now c.loop-kind.levels c.loop-kind.kind c.index-levels-kind.result c.loop-kind.invariant.same in
    sym (found_here least_claimable c.args.levels.now c.loop-kind.kind c.index-levels-kind.result c.in-Some.tile there
    (sym (ap least_claimable here) ∙ sym c.in_ok-tile.ensures.tile ∙ c.in-Some.is))
    ∙ c.loop-kind.invariant.rest

pub returns-in-Some-clause-state : goal.returns-in-Some-clause-state
returns-in-Some-clause-state g c =
    let there : c.loop-kind.kind < length c.args.levels.now = omega (arith, c.loop-kind-test.true) in
    let here = here_is c.args.levels.now c.loop-kind.levels c.loop-kind.kind c.index-levels-kind.result c.loop-kind.invariant.same in
    let found = sym (found_here least_claimable c.args.levels.now c.loop-kind.kind c.index-levels-kind.result c.in-Some.tile there
    (sym (ap least_claimable here) ∙ sym c.in_ok-tile.ensures.tile ∙ c.in-Some.is))
    ∙ c.loop-kind.invariant.rest in
    written_here c.args.levels.now c.loop-kind.levels c.loop-kind.kind c.index-levels-kind.result c.loop-kind.invariant.same after_step c.step.new.self there
    c.in_ok-tile.ensures.stepped
    ∙ ap (λ (o : Option (ℕ × ℕ)). at_found after_step o c.args.levels.now) found

pub returns-in-Some-clause-rules : goal.returns-in-Some-clause-rules
returns-in-Some-clause-rules g c =
    let there : c.loop-kind.kind < length c.args.levels.now = omega (arith, c.loop-kind-test.true) in
    kinds_here c.args.levels.now c.loop-kind.levels c.loop-kind.kind c.index-levels-kind.result c.loop-kind.invariant.same c.step.new.self c.requires.kinds there
    c.step.ensures.rules (ap common_of c.in_ok-tile.ensures.stepped ∙ stepped_common (get_or c.loop-kind.levels c.loop-kind.kind c.index-levels-kind.result))

pub loop-kind-preserved : goal.loop-kind-preserved
loop-kind-preserved g c =
    let there : c.loop-kind.kind < length c.args.levels.now = omega (arith, c.loop-kind-test.true) in
    let here = here_is c.args.levels.now c.loop-kind.levels c.loop-kind.kind c.index-levels-kind.result c.loop-kind.invariant.same in
    let none = sym c.in_ok-tile.ensures.tile ∙ c.in_default.is in
    record {
      same = same_here c.args.levels.now c.loop-kind.levels c.loop-kind.kind c.index-levels-kind.result c.loop-kind.invariant.same c.step.new.self
          (c.in_ok-tile.ensures.stepped ∙ idle_step (get_or c.loop-kind.levels c.loop-kind.kind c.index-levels-kind.result) none);
      rest = not_here least_claimable c.args.levels.now c.loop-kind.kind c.index-levels-kind.result there (sym (ap least_claimable here) ∙ none)
          ∙ c.loop-kind.invariant.rest;
    }

pub returns-clause-found : goal.returns-clause-found
returns-clause-found g c =
    let past : length c.args.levels.now ≤ c.loop-kind.kind = omega (arith, c.loop-kind-test.false) in
    sym (nowhere least_claimable c.args.levels.now c.loop-kind.kind past) ∙ c.loop-kind.invariant.rest

pub returns-clause-state : goal.returns-clause-state
returns-clause-state g c =
    let past : length c.args.levels.now ≤ c.loop-kind.kind = omega (arith, c.loop-kind-test.false) in
    let none = sym (nowhere least_claimable c.args.levels.now c.loop-kind.kind past) ∙ c.loop-kind.invariant.rest in
    c.loop-kind.invariant.same ∙ ap (λ (o : Option (ℕ × ℕ)). at_found after_step o c.args.levels.now) none
