use Rattle.std.proofs.Common.{◌≡◌, ◌++◌, take}
use Rattle.std.specs.List.{flat_map}
use Rattle.registry_format.specs.Spelling.{row_words}
use Rattle.registry_format.proofs.writing.append_rows.Given as goal

-- the rows so far
abbrev pub invariant-loop-row : goal.invariant-loop-row
invariant-loop-row l = l.words.items ≡ l.fn.words.items ++ flat_map row_words (take l.row-index l.rows)
