use Rattle.std.proofs.Common.{◌≡◌, length}
use Rattle.build_queue.specs.Flags.{set_count}
use Rattle.build_queue.proofs.waiting.WaitingTiles.release_all.Given as goal

-- only claims have changed
abbrev pub invariant-loop-tile : goal.invariant-loop-tile
invariant-loop-tile l = record {
  awaited : l.self.awaited ≡ l.initial.self.awaited;
  each : length l.self.claimed ≡ length l.initial.self.claimed;
}

-- the claimed tiles
abbrev pub decreases-loop-tile : goal.decreases-loop-tile
decreases-loop-tile l = set_count l.self.claimed
