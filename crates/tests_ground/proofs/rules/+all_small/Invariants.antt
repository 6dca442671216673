use Rattle.std.proofs.Common.{length}
use Rattle.tests_ground.proofs.rules.+all_small.Given as goal

-- the areas that are left
abbrev pub decreases-all_small : goal.decreases-all_small
decreases-all_small l = length l.areas.now
