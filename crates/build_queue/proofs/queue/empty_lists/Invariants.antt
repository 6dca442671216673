use Rattle.std.proofs.Common.{◌≡◌, [], replicate}
use Rattle.build_queue.proofs.queue.empty_lists.Given as goal

-- the lists so far
abbrev pub invariant-loop-tile : goal.invariant-loop-tile
invariant-loop-tile l = l.lists.items ≡ replicate l._tile []
