use Rattle.std.proofs.Common.{[]}
use Rattle.std.proofs.lemmas.List.{replicate_more}
use Rattle.build_queue.proofs.queue.empty_lists.Goals as goal

pub loop-tile-preserved : goal.loop-tile-preserved
loop-tile-preserved c =
    rw (c.in_ok-push.ensures.items, c.new.ensures, c.loop-tile.invariant) (replicate_more c.loop-tile._tile [])
