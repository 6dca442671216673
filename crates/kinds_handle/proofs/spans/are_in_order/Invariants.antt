use Rattle.std.proofs.Common.{take}
use Rattle.std.specs.Prelude.{AllPairs}
use Rattle.kinds_handle.specs.KindSpans.{ComesBefore}
use Rattle.kinds_handle.proofs.spans.are_in_order.Given as goal

-- the spans so far
abbrev pub invariant-loop-place : goal.invariant-loop-place
invariant-loop-place l = AllPairs ComesBefore (take l.place l.spans)
