use Rattle.std.proofs.Common.{sym}
use Rattle.mesh_input.proofs.PointLaws.{triangle_listed}
use Rattle.mesh_input.proofs.point.listed_triangle.Goals as goal

pub returns : goal.returns
returns c grid vertices are =
    triangle_listed grid vertices c.args.points.now c.args.corners.now c.args.place c.in_ok-a.a c.in_ok-b.b c.in_ok-c.c are (sym c.in_ok-a.ensures) (sym c.in_ok-b.ensures)
    (sym c.in_ok-c.ensures)
