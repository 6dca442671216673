use Rattle.std.proofs.Common.{length}
use Rattle.tests_ground.proofs.rules.+are_spans.Given as goal

-- the spans that are left
abbrev pub decreases-are_spans : goal.decreases-are_spans
decreases-are_spans l = length l.spans.now
