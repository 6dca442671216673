use Rattle.std.proofs.Common.{arith}
use Rattle.graph_search.proofs.Slots.{slot-next, slot-here, slot-end}
use Rattle.graph_search.proofs.radix_heap.slot_by_digits.Goals as goal

pub loop-digit-preserved : goal.loop-digit-preserved
loop-digit-preserved c = slot-next _ _ _ _ c.loop-digit-test.true c.if-before-after.false c.loop-digit.invariant

pub returns-then-before-after : goal.returns-then-before-after
returns-then-before-after c = slot-here _ _ _ _ c.loop-digit-test.true c.if-before-after.true c.loop-digit.invariant

pub returns : goal.returns
returns c = slot-end _ _ _ _ (omega (arith, c.loop-digit-test.false)) c.loop-digit.auto.digit-end c.loop-digit.invariant
