use Rattle.std.proofs.Common.{◌<◌, length, arith}
use Rattle.build_queue.specs.Steps.{after_put_back_all}
use Rattle.agent_kinds.proofs.Commons.{put_back_all_common, unchanged}
use Rattle.agent_kinds.proofs.Turns.{IsStepBy, all_turned, mapped, one_more, still_kinds}
use Rattle.agent_kinds.proofs.levels.put_back_all.Goals as goal

pub loop-level-preserved : goal.loop-level-preserved
loop-level-preserved c =
    let there : c.loop-level.level-index < length c.loop-level.levels = omega (arith, c.loop-level-test.true, c.loop-level.auto.levels) in
    one_more (IsStepBy after_put_back_all) c.loop-level.level-index c.args.levels.now c.loop-level.levels c.loop-level.invariant c.level-item.result
    c.put_back_all.new.self there (record { state = c.put_back_all.ensures.back; rules = c.put_back_all.ensures.rules })

pub returns-clause-state : goal.returns-clause-state
returns-clause-state c =
    mapped after_put_back_all c.args.levels.now c.loop-level.levels
    (all_turned (IsStepBy after_put_back_all) c.loop-level.level-index c.args.levels.now c.loop-level.levels c.loop-level.invariant c.loop-level-test.false)

pub returns-clause-rules : goal.returns-clause-rules
returns-clause-rules c =
    still_kinds after_put_back_all c.args.levels.now c.loop-level.levels
    (all_turned (IsStepBy after_put_back_all) c.loop-level.level-index c.args.levels.now c.loop-level.levels c.loop-level.invariant c.loop-level-test.false)
    unchanged c.requires.kinds put_back_all_common
