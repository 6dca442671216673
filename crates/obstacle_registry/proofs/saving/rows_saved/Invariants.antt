use Rattle.std.proofs.Common.{◌≡◌, map, take}
use Rattle.std.specs.Prelude.{All}
use Rattle.registry_format.specs.Saved.{FitsParts}
use Rattle.registry_format.specs.declared.saved.SavedObstacle.{SavedObstacle}
use Rattle.obstacle_registry.specs.Saving.{row_saved}
use Rattle.obstacle_registry.proofs.saving.rows_saved.Given as goal

-- the rows so far, whose parts fit
abbrev pub invariant-loop-row : goal.invariant-loop-row
invariant-loop-row l = record {
  rows : l.saved.items ≡ map row_saved (take l.row-index l.rows);
  fits : All (λ (row : SavedObstacle). FitsParts row.shape) l.saved.items;
}
