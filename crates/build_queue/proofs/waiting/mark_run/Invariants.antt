use Rattle.std.proofs.Common.{◌≡◌, ℕ, ◌+◌, ◌<◌, ◌≤◌, true, length}
use Rattle.build_queue.specs.Flags.{flag_of}
use Rattle.build_queue.proofs.waiting.mark_run.Given as goal

-- the marks stay, and the tiles at the places so far are marked
abbrev pub invariant-loop-place : goal.invariant-loop-place
invariant-loop-place l = record {
  each : length l.dirty ≡ length l.initial.dirty;
  kept : (k : ℕ) → flag_of l.initial.dirty k ≡ true → flag_of l.dirty k ≡ true;
  marked : (place : ℕ) → l.fn.across.first ≤ place → place < l.place → flag_of l.dirty (l.start + place) ≡ true;
}
