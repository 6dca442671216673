use Rattle.std.proofs.Common.{◌≡◌, ◌++◌, drop, map, take}
use Rattle.place_handle.specs.Places.{place_told}
use Rattle.place_way_handle.proofs.found.lay_places.Given as goal

-- the places so far have what is told, the others are as they were
abbrev pub invariant-loop-place : goal.invariant-loop-place
invariant-loop-place l = l.room ≡ take l.place (map place_told l.places) ++ drop l.place l.fn.room
