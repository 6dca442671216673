use Rattle.mesh_place.specs.HeldPoints.{IsNearerOver}
use Rattle.mesh_place.proofs.held_points.nearer_above.Given as goal

-- what was found on the lines so far
abbrev pub invariant-loop-z : goal.invariant-loop-z
invariant-loop-z l = IsNearerOver l.polygon l.p l.fn.lines.first l.z l.fn.best l.nearest
