use Rattle.std.proofs.Common.{◌≡◌, vec_capacity}
use Rattle.build_queue.proofs.Renewals.{IsBegun}
use Rattle.build_queue.proofs.renewal.begin_again.Given as goal

-- the places so far are begun again, in the same rooms
abbrev pub invariant-loop-place : goal.invariant-loop-place
invariant-loop-place l = record {
  begun : IsBegun l.fn.entries.items l.entries.items l.fn.live.items l.live.items l.place;
  room : vec_capacity l.entries ≡ vec_capacity l.fn.entries;
  live_room : vec_capacity l.live ≡ vec_capacity l.fn.live;
}
