use Rattle.std.proofs.Common.{◌≡◌}
use Rattle.tests_paths.proofs.FlatFields.{flat_spans}
use Rattle.tests_paths.proofs.books.flat_field.Given as goal

-- the spans so far
abbrev pub invariant-loop-i : goal.invariant-loop-i
invariant-loop-i l = l.spans.items ≡ flat_spans l.width l.i
