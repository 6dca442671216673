use Rattle.std.proofs.Common.{◌++◌, ◌∙◌, ap}
use Rattle.std.specs.Prelude.{Option}
use Rattle.std.specs.Option.{option_to_list}
use Rattle.graph_search.specs.declared.radix_heap.HeapEntry.{HeapEntry}
use Rattle.graph_search.proofs.Lists.{within, taken-write}
use Rattle.graph_search.proofs.radix_heap.take_last.Goals as goal

pub returns : goal.returns
returns c =
    taken-write c.args.lists.now.items c.args.slot c.index_mut.result.now c.pop.new.self c.unwrap.result (within _ _ c.requires) c.index_mut.ensures.value
    (c.pop.ensures.items ∙ ap (λ (found : Option HeapEntry). c.pop.new.self.items ++ option_to_list found) c.unwrap.ensures)
