use Rattle.std.proofs.Common.{subst, sym, arith}
use Rattle.graph_search.specs.Entries.{AreAlike}
use Rattle.graph_search.proofs.Lists.{on_err, alike-then, alike-push, alike-write, added-then, added-write}
use Rattle.graph_search.proofs.radix_heap.add.Goals as goal

pub loop-alloc-preserved : goal.loop-alloc-preserved
loop-alloc-preserved c =
    alike-then _ _ _ c.loop-alloc.invariant
    (subst (AreAlike c.loop-alloc.lists.items) (sym c.in_ok-push.ensures.items) (alike-push c.loop-alloc.lists.items c.new.result c.new.ensures.items))

pub returns-in_err-push-2-clause-kept : goal.returns-in_err-push-2-clause-kept
returns-in_err-push-2-clause-kept c =
    on_err _ c.from_residual-in_err-push-2.result
    (alike-then _ _ _ c.loop-alloc.invariant
    (alike-write c.loop-alloc.lists.items c.args.slot c.index_mut.result.now c.push-2.new.self (omega (arith, c.loop-alloc-test.false)) c.index_mut.ensures.value
    c.in_err-push-2.ensures.items))

pub returns-clause-added : goal.returns-clause-added
returns-clause-added c =
    added-then _ _ _ _ _ c.loop-alloc.invariant
    (added-write c.loop-alloc.lists.items c.args.slot c.index_mut.result.now c.push-2.new.self c.args.entry (omega (arith, c.loop-alloc-test.false)) c.index_mut.ensures.value
    c.in_ok-push-2.ensures.items)
