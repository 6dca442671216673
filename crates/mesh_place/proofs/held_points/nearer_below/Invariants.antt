use Rattle.std.specs.Prelude.{◌+◌, ◌-◌}
use Rattle.mesh_place.specs.HeldPoints.{IsNearerOver}
use Rattle.mesh_place.proofs.held_points.nearer_below.Given as goal

-- what was found on the lines so far
abbrev pub invariant-loop-back : goal.invariant-loop-back
invariant-loop-back l = IsNearerOver l.polygon l.p (l.lines.last + 1 - l.back) (l.lines.last + 1) l.fn.best l.nearest
