use Rattle.std.proofs.Common.{rules}
use Rattle.nav_ground.proofs.touch.are_overlapping.Goals as goal

pub returns-then-a0-b1 : goal.returns-then-a0-b1
returns-then-a0-b1 c = search rules

pub returns-else-a0-b1 : goal.returns-else-a0-b1
returns-else-a0-b1 c = search rules
