use Rattle.std.proofs.Common.{refl}
use Rattle.build_queue.proofs.Keeping.{first_kept, is_book}
use Rattle.build_queue.proofs.queue.BuildQueue.begin.Goals as goal

pub invariant_of-result : goal.invariant_of-result
invariant_of-result c =
    let made = rw (c.tiles.ensures, c.deref-2.ensures) at c.in_ok-stored.ensures in
    let room = rw c.deref.ensures at c.in_ok-entries.ensures in
    first_kept _ c.requires room.history room.live room.aimed refl refl made.stored made.dirty made.waiting

pub returns-clause-rules : goal.returns-clause-rules
returns-clause-rules c = is_book _ (invariant_of-result c)
