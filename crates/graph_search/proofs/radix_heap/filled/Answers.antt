use Rattle.std.proofs.Common.{sym, arith}
use Rattle.std.proofs.lemmas.Bool.{eqb-true}
use Rattle.std.proofs.lemmas.List.{nil_from_length}
use Rattle.graph_search.proofs.Lists.{none_further, none_at_all}
use Rattle.graph_search.proofs.radix_heap.filled.Goals as goal

pub loop-slot-preserved : goal.loop-slot-preserved
loop-slot-preserved c = none_further _ _ _ _ c.loop-slot.invariant c.loop-slot-test.true c.index-lists-slot.is
    (nil_from_length c.index-lists-slot.result.items (omega (arith, eqb-true _ _ (sym c.if-not-is_empty.ensures))))

pub returns-clause-none : goal.returns-clause-none
returns-clause-none c = none_at_all _ _ _ c.loop-slot.invariant (omega (arith, c.loop-slot-test.false))
