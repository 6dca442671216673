use Rattle.std.proofs.Common.{◌∙◌}
use Rattle.strip_mesh.proofs.Steps.{low_is}
use Rattle.strip_mesh.proofs.polygons.low.Goals as goal

pub returns : goal.returns
returns c = c.loop-at.invariant ∙ low_is c.args.cells.now c.args.run.now c.loop-at.at-index c.requires.some c.loop-at-test.false
