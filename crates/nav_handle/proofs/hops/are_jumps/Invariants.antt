-- The points of the jumps so far have coordinates.
use Rattle.std.proofs.Common.{ℕ, ◌<◌, get_or}
use Rattle.off_links.specs.OffMeshLinks.{HasJumpCoordinates}
use Rattle.nav_handle.specs.Hopping.{jump_of}
use Rattle.nav_handle.proofs.JumpLaws.{no_jump}
use Rattle.nav_handle.proofs.hops.are_jumps.Given as goal

abbrev pub invariant-loop-jump : goal.invariant-loop-jump
invariant-loop-jump l = (k : ℕ) → k < l.jump-index → HasJumpCoordinates (jump_of (get_or l.jumps k no_jump))
