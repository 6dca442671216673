-- The corners so far have coordinates.
use Rattle.std.proofs.Common.{ℕ, ◌<◌}
use Rattle.nav_base.specs.Point.{HasCoordinates}
use Rattle.nav_base.specs.Convex.{corner_at}
use Rattle.tests_mesh.proofs.cut_outlines.can_be_cut.Given as goal

abbrev pub invariant-loop-corner : goal.invariant-loop-corner
invariant-loop-corner l = (k : ℕ) → k < l.corner-index → HasCoordinates (corner_at l.corners k)
