use Rattle.std.proofs.Common.{rules}
use Rattle.live_ground.proofs.reach.is_in_reach.Goals as goal

pub returns-then-is_reaching : goal.returns-then-is_reaching
returns-then-is_reaching c = search rules
