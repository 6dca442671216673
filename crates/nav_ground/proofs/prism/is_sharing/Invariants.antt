use Rattle.std.proofs.Common.{ℕ, ◌<◌, pos}
use Rattle.std.specs.Prelude.{◌<ℤ◌}
use Rattle.nav_ground.specs.Prisms.{far_turn}
use Rattle.nav_ground.proofs.prism.is_sharing.Given as goal

-- a part of the column lies to the left of each side so far
abbrev pub invariant-loop-place : goal.invariant-loop-place
invariant-loop-place l = (i : ℕ) → i < l.place → pos 0 <ℤ far_turn l.corners l.x l.z i
