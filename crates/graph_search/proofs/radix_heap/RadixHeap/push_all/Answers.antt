use Rattle.std.proofs.Common.{◌++◌, List, ◌∙◌, subst, arith}
use Rattle.std.specs.List.Sorted.{IsPermutation}
use Rattle.std.proofs.lemmas.List.{take_all}
use Rattle.std.proofs.lemmas.List.Sorted.{IsPermutation-refl}
use Rattle.graph_search.specs.declared.radix_heap.HeapEntry.{HeapEntry}
use Rattle.graph_search.proofs.Queues.{came}
use Rattle.graph_search.proofs.radix_heap.RadixHeap.push_all.Goals as goal

pub loop-entry-init : goal.loop-entry-init
loop-entry-init c = record { added = IsPermutation-refl c.args.self.now.entries; last = λ _. c.args.self.now.last }

pub push-requires : goal.push-requires
push-requires c = omega (arith, c.loop-entry.invariant.last, c.requires c.loop-entry.entry-index (record { key = 0; vertex = record { block = 0; place = 0 } }) c.loop-entry-test.true)

pub returns-in_err-push-clause-last : goal.returns-in_err-push-clause-last
returns-in_err-push-clause-last c = c.push.ensures.last ∙ c.loop-entry.invariant.last

pub loop-entry-preserved : goal.loop-entry-preserved
loop-entry-preserved c = record {
  added = came _ _ _ _ _ _ c.loop-entry-test.true c.loop-entry.invariant.added c.in_ok-push.ensures.added;
  last = c.push.ensures.last ∙ c.loop-entry.invariant.last;
}

pub returns-clause-added : goal.returns-clause-added
returns-clause-added c =
    subst (λ (first : List HeapEntry). IsPermutation (first ++ c.args.self.now.entries) c.loop-entry.self.entries)
    (take_all c.loop-entry.entry-index c.args.entries.now (omega (arith, c.loop-entry-test.false))) c.loop-entry.invariant.added

pub returns-clause-last : goal.returns-clause-last
returns-clause-last c = c.loop-entry.invariant.last
