use Rattle.std.proofs.Common.{◌∙◌, arith}
use Rattle.strip_mesh.proofs.Counts.{count_is, count_few}
use Rattle.strip_mesh.proofs.tile_strips.TileStrips.count.Goals as goal

pub overflow_cast-result : goal.overflow_cast-result
overflow_cast-result c = omega (arith, c.len.ensures, count_is c.args.self.now c.requires, count_few c.args.self.now c.requires)

pub returns-clause-value : goal.returns-clause-value
returns-clause-value c = c.len.ensures ∙ count_is c.args.self.now c.requires

pub returns-clause-few : goal.returns-clause-few
returns-clause-few c = omega (arith, c.len.ensures, count_is c.args.self.now c.requires, count_few c.args.self.now c.requires)
