use Rattle.std.proofs.Common.{rules}
use Rattle.nav_ground.proofs.shape.is_in_disc.Goals as goal

pub returns : goal.returns
returns c = search rules
