use Rattle.std.proofs.Common.{arith}
use Rattle.random_place.proofs.CountLaws.{cells_fit}
use Rattle.random_place.proofs.counts.count_open.Goals as goal

pub returns-then-is_open-clause-bound : goal.returns-then-is_open-clause-bound
returns-then-is_open-clause-bound c = omega (arith, c.requires.reach.cells, cells_fit c.args.storey.now c.requires.storey)
