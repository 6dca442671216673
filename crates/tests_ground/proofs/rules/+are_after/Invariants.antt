use Rattle.std.proofs.Common.{length}
use Rattle.tests_ground.proofs.rules.+are_after.Given as goal

-- the spans that are left
abbrev pub decreases-are_after : goal.decreases-are_after
decreases-are_after l = length l.rest.now
