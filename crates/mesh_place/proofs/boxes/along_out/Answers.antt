use Rattle.std.proofs.Common.{arith}
use Rattle.mesh_place.proofs.Squares.{outside_parts}
use Rattle.mesh_place.proofs.boxes.along_out.Goals as goal

pub returns-clause-value : goal.returns-clause-value
returns-clause-value c =
    omega (arith, c.max.ensures, c.below_by.ensures.value, c.below_by-2.ensures.value, outside_parts c.args.low.z c.args.high.z c.args.p.z)
