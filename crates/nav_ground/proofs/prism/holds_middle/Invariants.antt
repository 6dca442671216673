use Rattle.std.proofs.Common.{ℕ, ◌<◌, pos}
use Rattle.std.specs.Prelude.{◌≤ℤ◌}
use Rattle.nav_ground.specs.Prisms.{middle_turn}
use Rattle.nav_ground.proofs.prism.holds_middle.Given as goal

-- the middle lies to the left of each side so far, or on it
abbrev pub invariant-loop-place : goal.invariant-loop-place
invariant-loop-place l = (i : ℕ) → i < l.place → pos 0 ≤ℤ middle_turn l.corners l.x l.z i
