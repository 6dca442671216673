use Rattle.std.proofs.Common.{◌≡◌, length}
use Rattle.mesh_input.specs.Points.{AreVertexPoints}
use Rattle.mesh_input.proofs.point.vertex_points.Given as goal

-- the points of the vertices so far are listed
abbrev pub invariant-loop-index : goal.invariant-loop-index
invariant-loop-index l = AreVertexPoints l.grid l.vertices l.points.items × (length l.points.items ≡ l.index)
