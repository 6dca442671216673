use Rattle.std.proofs.Common.{arith}
use Rattle.path_queries.proofs.BatchAnswers.{plans-end, plans-next}
use Rattle.path_queries.proofs.batch.one_by_one.Goals as goal

pub loop-start-preserved : goal.loop-start-preserved
loop-start-preserved c =
    plans-next c.args.mesh.now c.args.goal c.args.filter.now c.args.starts.now c.loop-start.start-index _ _ _ _ c.loop-start-test.true
    c.loop-start.invariant (c.in_ok-plan.ensures.right, c.in_ok-plan.ensures.low_cost) c.in_ok-push.ensures.items

pub returns : goal.returns
returns c =
    plans-end c.args.mesh.now c.args.goal c.args.filter.now c.args.starts.now c.loop-start.start-index _ (omega (arith, c.loop-start-test.false))
    c.loop-start.invariant
