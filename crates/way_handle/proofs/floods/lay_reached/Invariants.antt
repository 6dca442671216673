use Rattle.std.proofs.Common.{◌≡◌, ◌++◌, drop, map, take}
use Rattle.way_handle.specs.Flooding.{reached_told}
use Rattle.way_handle.proofs.floods.lay_reached.Given as goal

-- the places so far have what is told, the others are as they were
abbrev pub invariant-loop-place : goal.invariant-loop-place
invariant-loop-place l = l.room ≡ take l.place (map reached_told l.list) ++ drop l.place l.fn.room
