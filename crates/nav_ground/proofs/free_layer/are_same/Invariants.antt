use Rattle.std.proofs.Common.{◌≡◌, length, take}
use Rattle.nav_ground.proofs.free_layer.are_same.Given as goal

-- as many cells are the same so far
abbrev pub invariant-loop-place : goal.invariant-loop-place
invariant-loop-place l = (length l.a ≡ length l.b) × (take l.place l.a ≡ take l.place l.b)
