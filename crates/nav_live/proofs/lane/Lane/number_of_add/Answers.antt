use Rattle.std.proofs.Common.{rules}
use Rattle.nav_live.proofs.lane.Lane.number_of_add.Goals as goal

pub returns : goal.returns
returns c = search rules
