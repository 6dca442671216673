use Rattle.std.proofs.Common.{◌≡◌, ◌++◌, drop, take}
use Rattle.nav_handle.proofs.ends.lay_numbers.Given as goal

-- the places so far have the numbers, the others are as they were
abbrev pub invariant-loop-place : goal.invariant-loop-place
invariant-loop-place l = l.room ≡ take l.place l.numbers ++ drop l.place l.fn.room
