-- The numbers of the four directions.
use Rattle.std.proofs.Common.{◌<◌, arith}
use Rattle.nav_ground.specs.declared.direction.Direction.{Direction}
use Rattle.nav_ground.specs.declared.direction.Direction.TheVariants.{Left, Above, Right, Below}
use Rattle.nav_ground.specs.Directions.{number}

-- there are four
pub number-below : (dir : Direction) → number dir < 4
number-below Left = omega arith
number-below Above = omega arith
number-below Right = omega arith
number-below Below = omega arith
