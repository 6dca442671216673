use Rattle.std.proofs.Common.{arith}
use Rattle.std.proofs.lemmas.Int.{ints}
use Rattle.nav_ground.specs.Tiling.{widened}
use Rattle.agent_erode.proofs.RunLaws.{between_z}
use Rattle.agent_erode.proofs.windows.rows_of.Goals as goal

pub returns-clause-all : goal.returns-clause-all
returns-clause-all c = λ x z below inside.
    let between = between_z (widened c.args.window c.args.margin) x z inside in
    c.ends_of-first.ensures.all z below (omega (arith, ints, between.0), omega (arith, ints, between.1))
