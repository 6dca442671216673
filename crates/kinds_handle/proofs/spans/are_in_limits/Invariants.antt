use Rattle.std.proofs.Common.{take}
use Rattle.std.specs.Prelude.{All}
use Rattle.kinds_handle.specs.KindSpans.{IsSpanOf}
use Rattle.kinds_handle.proofs.spans.are_in_limits.Given as goal

-- the spans so far
abbrev pub invariant-loop-span : goal.invariant-loop-span
invariant-loop-span l = All (IsSpanOf l.ground) (take l.span-index l.spans)
