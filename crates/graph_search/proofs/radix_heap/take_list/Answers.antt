use Rattle.std.proofs.Common.{◌∙◌, sym, ap, subst}
use Rattle.std.specs.Prelude.{slice_set}
use Rattle.std.specs.declared.alloc.Global.{Global}
use Rattle.std.specs.declared.vec.Vec.{Vec}
use Rattle.graph_search.specs.declared.radix_heap.HeapEntry.{HeapEntry}
use Rattle.graph_search.specs.Entries.{IsEmptied}
use Rattle.graph_search.proofs.Lists.{within, emptied-write}
use Rattle.graph_search.proofs.radix_heap.take_list.Goals as goal

pub returns : goal.returns
returns c =
    subst (λ (list : Vec HeapEntry Global). IsEmptied c.args.lists.now.items c.args.slot list.items (slice_set c.args.lists.now.items c.args.slot c.replace.new.dest)) (sym c.replace.ensures.value)
    (emptied-write c.args.lists.now.items c.args.slot c.index_mut.result.now c.replace.new.dest (within _ _ c.requires.some) c.index_mut.ensures.value
    (ap (λ (list : Vec HeapEntry Global). list.items) c.replace.ensures.after ∙ c.requires.empty))
