use Rattle.std.proofs.Common.{◌<◌, length, ap, ◌∙◌, arith}
use Rattle.build_queue.specs.BookState.{BookState}
use Rattle.build_queue.specs.Steps.{after_aim}
use Rattle.agent_kinds.proofs.AtOne.{CommonState, told_by_all}
use Rattle.agent_kinds.proofs.Commons.{aimed_common, common_aimed}
use Rattle.agent_kinds.proofs.Turns.{IsStepBy, all_turned, mapped, next_is, one_more, still_kinds}
use Rattle.agent_kinds.proofs.levels.aim_all.Goals as goal

pub loop-level-preserved : goal.loop-level-preserved
loop-level-preserved c =
    let have = c.loop-level.invariant.turned in
    let there : c.loop-level.level-index < length c.loop-level.levels = omega (arith, c.loop-level-test.true, c.loop-level.auto.levels) in
    record {
      turned = one_more (IsStepBy after_aim) c.loop-level.level-index c.args.levels.now c.loop-level.levels have c.level-item.result c.aim-length.new.self there
          (record { state = c.aim-length.ensures.aimed; rules = c.aim-length.ensures.rules });
      told = λ some.
          told_by_all (λ (common : CommonState). length common.history) c.aim-length.result c.args.levels.now c.loop-level.level-index c.level-item.result
          c.requires.kinds c.loop-level-test.true
          (c.aim-length.ensures.length
          ∙ ap (λ (state : BookState). length state.history)
          (next_is (IsStepBy after_aim) c.loop-level.level-index c.args.levels.now c.loop-level.levels have c.level-item.result));
    }

pub returns-clause-state : goal.returns-clause-state
returns-clause-state c =
    mapped after_aim c.args.levels.now c.loop-level.levels
    (all_turned (IsStepBy after_aim) c.loop-level.level-index c.args.levels.now c.loop-level.levels c.loop-level.invariant.turned c.loop-level-test.false)

pub returns-clause-length : goal.returns-clause-length
returns-clause-length c = c.loop-level.invariant.told (omega (arith, c.requires.kinds.some, c.loop-level-test.false))

pub returns-clause-rules : goal.returns-clause-rules
returns-clause-rules c =
    still_kinds after_aim c.args.levels.now c.loop-level.levels
    (all_turned (IsStepBy after_aim) c.loop-level.level-index c.args.levels.now c.loop-level.levels c.loop-level.invariant.turned c.loop-level-test.false)
    common_aimed c.requires.kinds aimed_common
