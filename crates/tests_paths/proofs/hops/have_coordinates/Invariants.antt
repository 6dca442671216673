-- The points of the jumps so far have coordinates.
use Rattle.std.proofs.Common.{ℕ, ◌<◌, get_or}
use Rattle.mesh_types.specs.Stretches.{some_jump}
use Rattle.off_links.specs.OffMeshLinks.{HasJumpCoordinates}
use Rattle.tests_paths.proofs.hops.have_coordinates.Given as goal

abbrev pub invariant-loop-jump : goal.invariant-loop-jump
invariant-loop-jump l = (k : ℕ) → k < l.jump-index → HasJumpCoordinates (get_or l.jumps k some_jump)
