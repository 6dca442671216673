use Rattle.std.proofs.Common.{◌≡◌, length, take}
use Rattle.nav_handle.proofs.work.are_same_cells.Given as goal

-- as many elements are the same so far
abbrev pub invariant-loop-place : goal.invariant-loop-place
invariant-loop-place l = (length l.a ≡ length l.b) × (take l.place l.a ≡ take l.place l.b)
