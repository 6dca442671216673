use Rattle.std.proofs.Common.{◌<◌, length, arith}
use Rattle.build_queue.specs.StepContracts.{IsRenewStep}
use Rattle.agent_kinds.proofs.Shown.{renewed_kinds}
use Rattle.agent_kinds.proofs.Turns.{all_turned, one_more, zipped}
use Rattle.agent_kinds.proofs.levels.begin_all_again.Goals as goal

pub loop-level-preserved : goal.loop-level-preserved
loop-level-preserved c =
    let there : c.loop-level.level-index < length c.loop-level.levels = omega (arith, c.loop-level-test.true, c.loop-level.auto.levels) in
    one_more IsRenewStep c.loop-level.level-index c.args.levels.now c.loop-level.levels c.loop-level.invariant c.level-item.result
    c.begin_again.new.self there c.begin_again.ensures.did

pub returns-clause-did : goal.returns-clause-did
returns-clause-did c =
    zipped IsRenewStep c.args.levels.now c.loop-level.levels
    (all_turned IsRenewStep c.loop-level.level-index c.args.levels.now c.loop-level.levels c.loop-level.invariant c.loop-level-test.false)

pub returns-clause-rules : goal.returns-clause-rules
returns-clause-rules c =
    renewed_kinds c.args.levels.now c.loop-level.levels c.requires.kinds
    (all_turned IsRenewStep c.loop-level.level-index c.args.levels.now c.loop-level.levels c.loop-level.invariant c.loop-level-test.false)
