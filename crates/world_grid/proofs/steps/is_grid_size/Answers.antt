use Rattle.world_grid.proofs.SizeLaws.{by_most, by_least}
use Rattle.world_grid.proofs.steps.is_grid_size.Goals as goal

pub returns-then-size : goal.returns-then-size
returns-then-size c = by_most c.args.size c.if-size.true

pub returns-else-size : goal.returns-else-size
returns-else-size c = by_least c.args.size c.if-size.false
