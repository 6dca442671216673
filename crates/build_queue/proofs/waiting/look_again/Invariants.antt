use Rattle.std.proofs.Common.{◌≡◌, ℕ, [], length}
use Rattle.std.specs.Prelude.{if◌then◌else◌, slice_index_or}
use Rattle.build_queue.specs.Awaiting.{awaits}
use Rattle.build_queue.specs.Flags.{flag_of, set_count}
use Rattle.build_queue.proofs.waiting.look_again.Given as goal

-- looking again at what is marked still gives what looking again at all the marks gives
abbrev pub invariant-loop-tile : goal.invariant-loop-tile
invariant-loop-tile l = record {
  marks : length l.dirty ≡ length l.initial.dirty;
  flags : length l.waiting.awaited ≡ length l.initial.waiting.awaited;
  claimed : l.waiting.claimed ≡ l.initial.waiting.claimed;
  left : (k : ℕ) → (if flag_of l.dirty k then awaits l.setting l.aimed k (slice_index_or l.stored k []) else flag_of l.waiting.awaited k)
      ≡ (if flag_of l.initial.dirty k then awaits l.setting l.aimed k (slice_index_or l.stored k []) else flag_of l.initial.waiting.awaited k);
}

-- the marked tiles
abbrev pub decreases-loop-tile : goal.decreases-loop-tile
decreases-loop-tile l = set_count l.dirty
