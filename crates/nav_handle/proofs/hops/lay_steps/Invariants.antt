use Rattle.std.proofs.Common.{◌≡◌, ◌++◌, drop, map, take}
use Rattle.nav_handle.specs.Hopping.{step_told}
use Rattle.nav_handle.proofs.hops.lay_steps.Given as goal

-- the places so far have what is told, the others are as they were
abbrev pub invariant-loop-place : goal.invariant-loop-place
invariant-loop-place l = l.room ≡ take l.place (map step_told l.steps) ++ drop l.place l.fn.room
