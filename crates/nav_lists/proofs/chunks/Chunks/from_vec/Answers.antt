use Rattle.std.proofs.Common.{arith, ◌∙◌, sym}
use Rattle.std.proofs.lemmas.List.{nil_from_length}
use Rattle.std.specs.Vec.Iter.{into_iter_items}
use Rattle.nav_lists.proofs.ChunkLaws.{ended}
use Rattle.nav_lists.proofs.chunks.Chunks.from_vec.Goals as goal

pub invariant_of-result : goal.invariant_of-result
invariant_of-result g c =
    ended c.loop-item.chunks.items c.push_chunk.new.chunks.items c.loop-item.left.items (into_iter_items c.loop-item.item-iterator) c.args.items.items
    c.len-count.result c.loop-item.invariant.left c.in_ok-push_chunk.ensures c.loop-item.invariant.elements
    (nil_from_length c.loop-item.item-iterator.rest.items (sym c.loop-item.item-iterator.rest.ok.0 ∙ c.in-None.ensures.steps.0))
    (omega (arith, c.args.items.ok.0))
