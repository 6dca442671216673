use Rattle.std.proofs.Common.{arith}
use Rattle.strip_mesh.proofs.Counts.{count_is, run_cells, run_indices}
use Rattle.strip_mesh.proofs.tile_strips.TileStrips.run.Goals as goal

pub list-requires : goal.list-requires
list-requires c = omega (arith, count_is c.args.self.now c.requires.rules, c.requires.there)

pub returns-clause-cells : goal.returns-clause-cells
returns-clause-cells c = run_cells c.args.self.now c.requires.rules c.args.strip c.list.result.now c.requires.there c.list.ensures

pub returns-clause-indices : goal.returns-clause-indices
returns-clause-indices c = run_indices c.args.self.now c.requires.rules c.args.strip c.list.result.now c.requires.there c.list.ensures
