use Rattle.std.proofs.Common.{arith}
use Rattle.nav_base.specs.Point.{from_to}
use Rattle.nav_base.proofs.Sizes.{HasCoordinates-field, from_to-field, dot_of-bound}
use Rattle.corridor_search.proofs.weights.distance.Goals as goal

pub square_distance-requires-clause-from : goal.square_distance-requires-clause-from
square_distance-requires-clause-from c = HasCoordinates-field c.args.from c.requires.from

pub square_distance-requires-clause-to : goal.square_distance-requires-clause-to
square_distance-requires-clause-to c = HasCoordinates-field c.args.to c.requires.to

-- two points of the field are so near each other that the square of their distance fits into 32 bits
pub root-requires : goal.root-requires
root-requires c =
    let near = from_to-field c.args.from c.args.to c.requires.from c.requires.to in
    let small = dot_of-bound 16384 (from_to c.args.from c.args.to) (from_to c.args.from c.args.to) near near in
    let is = c.square_distance.ensures in
    omega (arith, small, is)
