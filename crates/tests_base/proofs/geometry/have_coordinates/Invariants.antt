-- The points so far have coordinates.
use Rattle.std.proofs.Common.{ℕ, ◌<◌, pos, get_or}
use Rattle.nav_base.specs.Point.{HasCoordinates}
use Rattle.tests_base.proofs.geometry.have_coordinates.Given as goal

abbrev pub invariant-loop-point : goal.invariant-loop-point
invariant-loop-point l = (k : ℕ) → k < l.point-index → HasCoordinates (get_or l.points k (record { x = pos 0; z = pos 0 }))
