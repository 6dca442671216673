use Rattle.std.proofs.Common.{◌≡◌, map, take}
use Rattle.kinds_handle.specs.KindSpans.{span_of}
use Rattle.kinds_handle.proofs.spans.field_of.Given as goal

-- the spans so far
abbrev pub invariant-loop-span : goal.invariant-loop-span
invariant-loop-span l = l.made.items ≡ map span_of (take l.span-index l.spans)
