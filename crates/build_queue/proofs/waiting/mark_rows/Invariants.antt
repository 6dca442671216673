use Rattle.std.proofs.Common.{◌≡◌, ℕ, ◌/◌, ◌%◌, ◌<◌, ◌≤◌, true, length}
use Rattle.build_queue.specs.Flags.{flag_of}
use Rattle.build_queue.proofs.waiting.mark_rows.Given as goal

-- the marks stay, and the tiles at the places of the rows so far are marked
abbrev pub invariant-loop-row : goal.invariant-loop-row
invariant-loop-row l = record {
  each : length l.dirty ≡ length l.initial.dirty;
  kept : (k : ℕ) → flag_of l.initial.dirty k ≡ true → flag_of l.dirty k ≡ true;
  marked : (k : ℕ) → l.fn.along.first ≤ k / l.columns → k / l.columns < l.row → l.across.first ≤ k % l.columns → k % l.columns < l.across.end
      → flag_of l.dirty k ≡ true;
}
