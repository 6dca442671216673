use Rattle.std.proofs.Common.{◌≤◌, length}
use Rattle.mesh_handle.specs.Points.{ArePointed}
use Rattle.mesh_handle.proofs.points.points_of.Given as goal

abbrev pub invariant-loop-at : goal.invariant-loop-at
invariant-loop-at l = ArePointed l.frame l.places l.fn.points l.points l.at × (l.at ≤ length l.fn.points)
