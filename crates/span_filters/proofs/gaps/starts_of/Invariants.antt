use Rattle.std.proofs.Common.{◌≡◌, take, map}
use Rattle.span_filters.specs.Columns.{start_of}
use Rattle.span_filters.proofs.gaps.starts_of.Given as goal

-- the places so far
abbrev pub invariant-loop-span : goal.invariant-loop-span
invariant-loop-span l = l.starts.items ≡ map start_of (take l.span-index l.spans)
