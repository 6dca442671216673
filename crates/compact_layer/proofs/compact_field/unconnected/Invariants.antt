use Rattle.std.proofs.Common.{◌≡◌}
use Rattle.compact_layer.proofs.SpansSoFar.{cells_so_far}
use Rattle.compact_layer.proofs.compact_field.unconnected.Given as goal

-- the cells on the spans so far
abbrev pub invariant-loop-i : goal.invariant-loop-i
invariant-loop-i l = l.cells.items ≡ cells_so_far l.spans l.areas l.i
