use Rattle.std.proofs.Common.{◌≡◌, ◌++◌, drop, take}
use Rattle.crowd_handle.specs.Slimming.{told_slim}
use Rattle.crowd_handle.proofs.slimming.tell_radii.Given as goal

-- the agents so far have what is told, the others are as they were
abbrev pub invariant-loop-place : goal.invariant-loop-place
invariant-loop-place l = l.room ≡ take l.place (told_slim l.after l.fn.room) ++ drop l.place l.fn.room
