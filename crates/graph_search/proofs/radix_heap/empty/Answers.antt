use Rattle.std.proofs.Common.{arith}
use Rattle.graph_search.proofs.Lists.{none_in, none_at_all}
use Rattle.graph_search.proofs.radix_heap.empty.Goals as goal

pub returns-clause-none : goal.returns-clause-none
returns-clause-none c k =
    none_at_all _ 0 c.loop-slot.slot (λ j from below. c.loop-slot.invariant.none j below) (omega (arith, c.loop-slot-test.false, c.loop-slot.auto.slot-end, c.loop-slot.invariant.count)) k (omega arith)

pub returns-clause-all : goal.returns-clause-all
returns-clause-all c =
    none_in _ (λ k. none_at_all _ 0 c.loop-slot.slot (λ j from below. c.loop-slot.invariant.none j below)
    (omega (arith, c.loop-slot-test.false, c.loop-slot.auto.slot-end, c.loop-slot.invariant.count)) k (omega arith))
