use Rattle.std.proofs.Common.{◌-◌}
use Rattle.corridor_search.proofs.islands.island_of.Given as goal

abbrev pub decreases-loop-place : goal.decreases-loop-place
decreases-loop-place l = 128 - l.place
