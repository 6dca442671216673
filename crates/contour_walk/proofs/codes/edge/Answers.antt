use Rattle.std.proofs.Common.{rules}
use Rattle.contour_walk.proofs.codes.edge.Goals as goal

pub returns : goal.returns
returns c = search rules
