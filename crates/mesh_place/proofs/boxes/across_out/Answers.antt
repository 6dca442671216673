use Rattle.std.proofs.Common.{arith}
use Rattle.mesh_place.proofs.Squares.{outside_parts}
use Rattle.mesh_place.proofs.boxes.across_out.Goals as goal

pub returns-clause-value : goal.returns-clause-value
returns-clause-value c =
    omega (arith, c.max.ensures, c.left_by.ensures.value, c.left_by-2.ensures.value, outside_parts c.args.low.x c.args.high.x c.args.p.x)
