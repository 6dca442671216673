use Rattle.std.proofs.Common.{◌≡◌, ◌++◌}
use Rattle.std.specs.List.{flat_map, range_with_len}
use Rattle.nav_gen.specs.Draws.{state_after}
use Rattle.nav_gen.proofs.FieldTexts.{column_line}
use Rattle.nav_gen.proofs.field.push_spans.Given as goal

-- the lines of the columns so far stand behind what was there, and each column had its draw
abbrev pub invariant-loop-column : goal.invariant-loop-column
invariant-loop-column l =
    (l.out.items ≡ l.fn.out.items ++ flat_map (column_line l.fn.draws l.size) (range_with_len 0 l.column)) × (l.draws ≡ state_after l.fn.draws l.column)
