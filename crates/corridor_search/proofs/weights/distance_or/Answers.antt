use Rattle.std.proofs.Common.{◌≡◌, ◌*◌, ◌≤◌, arith}
use Rattle.nav_base.specs.Point.{from_to}
use Rattle.nav_base.specs.Deviation.{square_of}
use Rattle.nav_base.proofs.RootLaws.{ceil_sqrt_of-at_most}
use Rattle.nav_base.proofs.Sizes.{HasCoordinates-field, from_to-field, dot_of-bound}
use Rattle.corridor_search.proofs.weights.distance_or.Goals as goal

pub square_distance-square-requires-clause-from : goal.square_distance-square-requires-clause-from
square_distance-square-requires-clause-from c = HasCoordinates-field c.args.from c.requires.from

pub square_distance-square-requires-clause-to : goal.square_distance-square-requires-clause-to
square_distance-square-requires-clause-to c = HasCoordinates-field c.args.to c.requires.to

-- two points of the field are so near each other that the square of their distance fits into 32 bits
pub root-requires : goal.root-requires
root-requires c =
    let near = from_to-field c.args.from c.args.to c.requires.from c.requires.to in
    let small = dot_of-bound 16384 (from_to c.args.from c.args.to) (from_to c.args.from c.args.to) near near in
    let is = c.square_distance-square.ensures in
    omega (arith, small, is)

pub returns-then-square-from : goal.returns-then-square-from
returns-then-square-from c =
    let p = c.from.ensures in
    let q = c.from-2.ensures in
    let same : c.from.result * c.from-2.result ≡ c.args.other * c.args.other = λ i. (p i) * (q i) in
    let small : square_of (from_to c.args.from c.args.to) ≤ c.args.other * c.args.other = omega (arith, c.if-square-from.true, same, c.square_distance-square.ensures) in
    omega (arith, ceil_sqrt_of-at_most (square_of (from_to c.args.from c.args.to)) c.args.other small)
