use Rattle.std.proofs.Common.{◌-◌, length}
use Rattle.obstacle_mark.specs.Columns.{IsPassed}
use Rattle.obstacle_mark.proofs.places.pass.Given as goal

-- those passed so far lie before the column
abbrev pub invariant-loop-passed : goal.invariant-loop-passed
invariant-loop-passed l = IsPassed l.places l.passed l.column

abbrev pub decreases-loop-passed : goal.decreases-loop-passed
decreases-loop-passed l = length l.places - l.passed
