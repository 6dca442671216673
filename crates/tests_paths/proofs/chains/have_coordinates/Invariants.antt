-- The ends of the portals so far have coordinates.
use Rattle.std.proofs.Common.{ℕ, ◌<◌, get_or}
use Rattle.mesh_types.proofs.Words.{some_portal}
use Rattle.funnel_path.specs.Coordinates.{HasEndCoordinates}
use Rattle.tests_paths.proofs.chains.have_coordinates.Given as goal

abbrev pub invariant-loop-portal : goal.invariant-loop-portal
invariant-loop-portal l = (k : ℕ) → k < l.portal-index → HasEndCoordinates (get_or l.portals k some_portal)
