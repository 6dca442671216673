use Rattle.std.proofs.Common.{◌≡◌, ◌++◌}
use Rattle.std.specs.Vec.Iter.{into_iter_items}
use Rattle.nav_lists.specs.Chunked.{joined, IsLeft}
use Rattle.nav_lists.proofs.chunks.Chunks.from_vec.Given as goal

-- the elements in chunks, those left for the next, and those to come are all
abbrev pub invariant-loop-item : goal.invariant-loop-item
invariant-loop-item g l = record {
  left : IsLeft 32 l.chunks.items l.left.items;
  elements : (joined l.chunks.items ++ l.left.items) ++ into_iter_items l.item-iterator ≡ l.fn.items.items;
}
