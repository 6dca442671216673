use Rattle.std.proofs.Common.{◌≡◌, ◌++◌, drop, map, take}
use Rattle.nav_handle.specs.Looking.{obstacle_of}
use Rattle.nav_handle.proofs.faces.lay_obstacles.Given as goal

-- the places so far have what is told, the others are as they were
abbrev pub invariant-loop-place : goal.invariant-loop-place
invariant-loop-place l = l.room ≡ take l.place (map (obstacle_of l.entries) l.numbers) ++ drop l.place l.fn.room
