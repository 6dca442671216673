use Rattle.tests_base.proofs.RowGraphs.{ends_more}
use Rattle.tests_base.proofs.walks.push_row.Goals as goal

pub loop-pair-preserved : goal.loop-pair-preserved
loop-pair-preserved c = ends_more _ _ _ c.args.row.now c.loop-pair.pair-index _ _ c.loop-pair-test.true c.loop-pair.invariant c.at.ensures c.in_ok-push.ensures.items
