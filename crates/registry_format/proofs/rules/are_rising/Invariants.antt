use Rattle.std.proofs.Common.{◌<◌, take}
use Rattle.std.specs.Prelude.{AllPairs}
use Rattle.registry_format.specs.declared.saved.SavedObstacle.{SavedObstacle}
use Rattle.registry_format.proofs.rules.are_rising.Given as goal

-- the rows so far
abbrev pub invariant-loop-place : goal.invariant-loop-place
invariant-loop-place l = AllPairs (λ (a b : SavedObstacle). a.id < b.id) (take l.place l.rows)
