use Rattle.std.proofs.Common.{◌≤◌, length}
use Rattle.mesh_handle.specs.Points.{ArePlaced}
use Rattle.mesh_handle.proofs.points.places_of.Given as goal

abbrev pub invariant-loop-at : goal.invariant-loop-at
invariant-loop-at l = ArePlaced l.frame l.points l.fn.places l.places l.at × (l.at ≤ length l.fn.places)
