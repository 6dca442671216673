use Rattle.std.proofs.Common.{take}
use Rattle.std.specs.Prelude.{All}
use Rattle.registry_format.specs.Saved.{IsSavedRow}
use Rattle.registry_format.proofs.rules.are_rows.Given as goal

-- the rows so far
abbrev pub invariant-loop-row : goal.invariant-loop-row
invariant-loop-row l = All (IsSavedRow l.last) (take l.row-index l.rows)
