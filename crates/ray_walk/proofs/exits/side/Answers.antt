use Rattle.std.proofs.Common.{arith, to_z-of_z}
use Rattle.std.proofs.lemmas.Int.{ints}
use Rattle.nav_base.proofs.Sizes.{orient_of-bound}
use Rattle.ray_walk.proofs.exits.side.Goals as goal

pub returns-clause-small : goal.returns-clause-small
returns-clause-small c =
    let bound = orient_of-bound _ _ _ c.edge_ends.ensures.first c.edge_ends.ensures.second c.requires.point in
    let is = c.orient.ensures in
    grind (arith, ints, to_z-of_z, bound, is)
