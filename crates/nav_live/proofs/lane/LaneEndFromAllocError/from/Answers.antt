use Rattle.std.proofs.Common.{rules}
use Rattle.nav_live.proofs.lane.LaneEndFromAllocError.from.Goals as goal

pub returns : goal.returns
returns c = search rules
