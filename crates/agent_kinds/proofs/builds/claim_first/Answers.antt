use Rattle.std.proofs.Common.{◌<◌, ◌≤◌, ℕ, length, get_or, Option, Some, ap, ◌∙◌, sym, subst, arith}
use Rattle.std.specs.Prelude.{IfSome}
use Rattle.std.proofs.lemmas.Option.{slice_get-get_or}
use Rattle.build_queue.specs.declared.live.Job.{Job}
use Rattle.build_queue.specs.BookState.{BookState}
use Rattle.build_queue.specs.Steps.{IsJob, after_claim, next_job}
use Rattle.nav_book.proofs.StepLaws.{is_idle}
use Rattle.agent_kinds.specs.Firsts.{at_found}
use Rattle.agent_kinds.proofs.AtOne.{common_of}
use Rattle.agent_kinds.proofs.Commons.{idle_claim}
use Rattle.agent_kinds.proofs.Places.{found_here, here_is, kinds_here, not_here, nowhere, same_here, written_here}
use Rattle.agent_kinds.proofs.builds.claim_first.Goals as goal

pub returns-in-Some-clause-job : goal.returns-in-Some-clause-job
returns-in-Some-clause-job c =
    let there : c.loop-kind.kind < length c.args.levels.now = omega (arith, c.loop-kind-test.true) in
    let here = here_is c.args.levels.now c.loop-kind.levels c.loop-kind.kind c.index-levels-kind.result c.loop-kind.invariant.same in
    sym (found_here next_job c.args.levels.now c.loop-kind.kind c.index-levels-kind.result c.in-Some.job there
    (sym (ap next_job here) ∙ sym c.in_ok-job.ensures.job ∙ c.in-Some.is))
    ∙ c.loop-kind.invariant.rest

pub returns-in-Some-clause-fit : goal.returns-in-Some-clause-fit
returns-in-Some-clause-fit c =
    let there : c.loop-kind.kind < length c.args.levels.now = omega (arith, c.loop-kind-test.true) in
    let here = here_is c.args.levels.now c.loop-kind.levels c.loop-kind.kind c.index-levels-kind.result c.loop-kind.invariant.same in
    let state : BookState = get_or c.args.levels.now c.loop-kind.kind c.index-levels-kind.result in
    let fits : IfSome (Some c.in-Some.job) (IsJob state.ground.setting) =
    subst (λ (o : Option Job). IfSome o (IsJob state.ground.setting)) c.in-Some.is
    (subst (λ (s : BookState). IfSome c.in_ok-job.field-0 (IsJob s.ground.setting)) here c.in_ok-job.ensures.fit) in
    subst (λ (o : Option BookState). IfSome o (λ s. IsJob s.ground.setting c.in-Some.job))
    (sym (slice_get-get_or c.args.levels.now c.loop-kind.kind c.index-levels-kind.result there)) fits

pub returns-in-Some-clause-state : goal.returns-in-Some-clause-state
returns-in-Some-clause-state c =
    let there : c.loop-kind.kind < length c.args.levels.now = omega (arith, c.loop-kind-test.true) in
    let here = here_is c.args.levels.now c.loop-kind.levels c.loop-kind.kind c.index-levels-kind.result c.loop-kind.invariant.same in
    let found = sym (found_here next_job c.args.levels.now c.loop-kind.kind c.index-levels-kind.result c.in-Some.job there
    (sym (ap next_job here) ∙ sym c.in_ok-job.ensures.job ∙ c.in-Some.is))
    ∙ c.loop-kind.invariant.rest in
    written_here c.args.levels.now c.loop-kind.levels c.loop-kind.kind c.index-levels-kind.result c.loop-kind.invariant.same after_claim c.claim.new.self there
    c.in_ok-job.ensures.claimed
    ∙ ap (λ (o : Option (ℕ × Job)). at_found after_claim o c.args.levels.now) found

pub returns-in-Some-clause-rules : goal.returns-in-Some-clause-rules
returns-in-Some-clause-rules c =
    let there : c.loop-kind.kind < length c.args.levels.now = omega (arith, c.loop-kind-test.true) in
    kinds_here c.args.levels.now c.loop-kind.levels c.loop-kind.kind c.index-levels-kind.result c.loop-kind.invariant.same c.claim.new.self c.requires.kinds there
    c.claim.ensures.rules (ap common_of c.in_ok-job.ensures.claimed)

pub loop-kind-preserved : goal.loop-kind-preserved
loop-kind-preserved c =
    let there : c.loop-kind.kind < length c.args.levels.now = omega (arith, c.loop-kind-test.true) in
    let here = here_is c.args.levels.now c.loop-kind.levels c.loop-kind.kind c.index-levels-kind.result c.loop-kind.invariant.same in
    let idle = is_idle (get_or c.loop-kind.levels c.loop-kind.kind c.index-levels-kind.result) c.in_ok-job.field-0 c.in_ok-job.ensures.job c.in_default.is in
    record {
      same = same_here c.args.levels.now c.loop-kind.levels c.loop-kind.kind c.index-levels-kind.result c.loop-kind.invariant.same c.claim.new.self
          (c.in_ok-job.ensures.claimed ∙ idle_claim (get_or c.loop-kind.levels c.loop-kind.kind c.index-levels-kind.result) (sym idle.none));
      rest = not_here next_job c.args.levels.now c.loop-kind.kind c.index-levels-kind.result there
          (sym (ap next_job here) ∙ sym c.in_ok-job.ensures.job ∙ c.in_default.is)
          ∙ c.loop-kind.invariant.rest;
    }

pub returns-clause-job : goal.returns-clause-job
returns-clause-job c =
    let past : length c.args.levels.now ≤ c.loop-kind.kind = omega (arith, c.loop-kind-test.false) in
    sym (nowhere next_job c.args.levels.now c.loop-kind.kind past) ∙ c.loop-kind.invariant.rest

pub returns-clause-state : goal.returns-clause-state
returns-clause-state c =
    let past : length c.args.levels.now ≤ c.loop-kind.kind = omega (arith, c.loop-kind-test.false) in
    let none = sym (nowhere next_job c.args.levels.now c.loop-kind.kind past) ∙ c.loop-kind.invariant.rest in
    c.loop-kind.invariant.same ∙ ap (λ (o : Option (ℕ × Job)). at_found after_claim o c.args.levels.now) none
