use Rattle.std.proofs.Common.{◌≡◌, take, vec_capacity}
use Rattle.build_queue.specs.LiveTable.{shapes_in}
use Rattle.build_queue.proofs.live.take_over.Given as goal

-- the shapes of the rows so far, in the same room
abbrev pub invariant-loop-row : goal.invariant-loop-row
invariant-loop-row l = record {
  shapes : l.aimed.items ≡ shapes_in (take l.row-index l.live);
  room : vec_capacity l.aimed ≡ vec_capacity l.fn.aimed;
}
