use Rattle.std.proofs.Common.{◌-◌, length}
use Rattle.span_filters.specs.Columns.{IsPassed}
use Rattle.span_filters.proofs.gaps.pass.Given as goal

-- those passed so far begin before the place
abbrev pub invariant-loop-passed : goal.invariant-loop-passed
invariant-loop-passed l = IsPassed l.list.spans.now l.passed l.place

abbrev pub decreases-loop-passed : goal.decreases-loop-passed
decreases-loop-passed l = length l.starts - l.passed
