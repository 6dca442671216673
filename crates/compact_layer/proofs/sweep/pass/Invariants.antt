use Rattle.std.proofs.Common.{◌-◌, length}
use Rattle.compact_layer.specs.Stacks.{IsPassed}
use Rattle.compact_layer.proofs.sweep.pass.Given as goal

-- those passed so far are passed
abbrev pub invariant-loop-passed : goal.invariant-loop-passed
invariant-loop-passed l = IsPassed l.cells l.passed l.column l.height

abbrev pub decreases-loop-passed : goal.decreases-loop-passed
decreases-loop-passed l = length l.cells - l.passed
