use Rattle.std.proofs.Common.{◌≡◌, ◌≤◌, ◌++◌, ◌-◌, ◌*◌, length}
use Rattle.std.specs.Prelude.{All}
use Rattle.registry_format.specs.Reading.{rows_of}
use Rattle.registry_format.specs.Saved.{FitsParts}
use Rattle.registry_format.specs.declared.saved.SavedObstacle.{SavedObstacle}
use Rattle.registry_format.proofs.reading.rows_in.Given as goal

-- the rows so far, and those that the rest begins with
abbrev pub invariant-loop : goal.invariant-loop
invariant-loop l =
    (l.rows.items ++ rows_of (l.count - l.counter) l.rest ≡ rows_of l.count l.words) × (21 * (l.count - l.counter) ≤ length l.rest)
    × All (λ (row : SavedObstacle). FitsParts row.shape) l.rows.items
