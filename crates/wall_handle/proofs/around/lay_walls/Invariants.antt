use Rattle.std.proofs.Common.{◌≡◌, ◌++◌, drop, map, take}
use Rattle.wall_handle.specs.Walls.{wall_told}
use Rattle.wall_handle.proofs.around.lay_walls.Given as goal

-- the walls so far have what is told, the others are as they were
abbrev pub invariant-loop-place : goal.invariant-loop-place
invariant-loop-place l = l.room ≡ take l.place (map wall_told l.walls) ++ drop l.place l.fn.room
