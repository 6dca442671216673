use Rattle.std.proofs.Common.{arith}
use Rattle.nav_live.proofs.LaneLineLaws.{all_given, lanes_can_run, next_lane_below, none_given, one_line_given}
use Rattle.nav_live.proofs.start.lines_by_lane.Goals as goal

pub loop-line-init : goal.loop-line-init
loop-line-init c = none_given _ _ _ c.requires.lanes_least c.in_ok-lists.ensures

pub give-requires : goal.give-requires
give-requires c = omega (arith, c.loop-line.invariant.count, c.loop-line.invariant.here)

pub loop-line-preserved : goal.loop-line-preserved
loop-line-preserved c =
    one_line_given _ _ _ _ _ _ _ _ _ c.loop-line.invariant c.as_slice-line-items.ensures c.loop-line-test.true c.in_ok-current.ensures.lists c.in_ok-current.ensures.next
    (next_lane_below c.args.script.now _ _ _ _ c.requires c.as_slice-line-items.ensures c.loop-line-test.true c.loop-line.invariant.here)

pub returns-clause-lists : goal.returns-clause-lists
returns-clause-lists c = all_given c.args.script.now _ _ _ _ c.loop-line.invariant c.as_slice-line-items.ensures (omega (arith, c.loop-line-test.false))

pub returns-clause-runnable : goal.returns-clause-runnable
returns-clause-runnable c = lanes_can_run c.args.script.now _ c.requires (returns-clause-lists c)
