use Rattle.std.proofs.Common.{length}
use Rattle.tests_ground.proofs.rules.+is_ordered.Given as goal

-- the spans that are left
abbrev pub decreases-is_ordered : goal.decreases-is_ordered
decreases-is_ordered l = length l.spans.now
