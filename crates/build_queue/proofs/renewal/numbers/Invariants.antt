use Rattle.std.proofs.Common.{◌≡◌, take}
use Rattle.build_queue.specs.LiveTable.{numbers_of}
use Rattle.build_queue.proofs.renewal.numbers.Given as goal

-- the numbers of the rows so far
abbrev pub invariant-loop-row : goal.invariant-loop-row
invariant-loop-row l = l.numbers.items ≡ numbers_of (take l.row-index l.live)
