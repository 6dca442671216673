use Rattle.std.proofs.Common.{rules}
use Rattle.contour_walk.proofs.round.is_before.Goals as goal

pub returns : goal.returns
returns c = search rules
