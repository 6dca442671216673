use Rattle.std.proofs.Common.{◌<◌, length, ap, ◌∙◌, arith}
use Rattle.build_queue.specs.BookState.{BookState}
use Rattle.build_queue.specs.Steps.{request_answer, requested}
use Rattle.agent_kinds.proofs.AtOne.{told_by_all}
use Rattle.agent_kinds.proofs.Commons.{common_requested, requested_common, told_of}
use Rattle.agent_kinds.proofs.Turns.{IsStepBy, all_turned, mapped, next_is, one_more, still_kinds}
use Rattle.agent_kinds.proofs.levels.request_all.Goals as goal

pub loop-level-preserved : goal.loop-level-preserved
loop-level-preserved c =
    let step : BookState → BookState = λ state. requested state c.args.lane c.args.request in
    let have = c.loop-level.invariant.turned in
    let there : c.loop-level.level-index < length c.loop-level.levels = omega (arith, c.loop-level-test.true, c.loop-level.auto.levels) in
    record {
      turned = one_more (IsStepBy step) c.loop-level.level-index c.args.levels.now c.loop-level.levels have c.level-item.result c.request-answer.new.self
          there (record { state = c.request-answer.ensures.state; rules = c.request-answer.ensures.rules });
      told = λ some.
          told_by_all (told_of c.args.request) c.request-answer.result c.args.levels.now c.loop-level.level-index c.level-item.result c.requires.kinds
          c.loop-level-test.true
          (c.request-answer.ensures.answer
          ∙ ap (λ (state : BookState). request_answer state c.args.request)
          (next_is (IsStepBy step) c.loop-level.level-index c.args.levels.now c.loop-level.levels have c.level-item.result));
    }

pub returns-clause-state : goal.returns-clause-state
returns-clause-state c =
    let step : BookState → BookState = λ state. requested state c.args.lane c.args.request in
    mapped step c.args.levels.now c.loop-level.levels
    (all_turned (IsStepBy step) c.loop-level.level-index c.args.levels.now c.loop-level.levels c.loop-level.invariant.turned c.loop-level-test.false)

pub returns-clause-answer : goal.returns-clause-answer
returns-clause-answer c = c.loop-level.invariant.told (omega (arith, c.requires.kinds.some, c.loop-level-test.false))

pub returns-clause-rules : goal.returns-clause-rules
returns-clause-rules c =
    let step : BookState → BookState = λ state. requested state c.args.lane c.args.request in
    still_kinds step c.args.levels.now c.loop-level.levels
    (all_turned (IsStepBy step) c.loop-level.level-index c.args.levels.now c.loop-level.levels c.loop-level.invariant.turned c.loop-level-test.false)
    (common_requested c.args.lane c.args.request) c.requires.kinds (requested_common c.args.lane c.args.request)
