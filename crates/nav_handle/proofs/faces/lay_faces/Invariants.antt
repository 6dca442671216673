use Rattle.std.proofs.Common.{◌≡◌, ◌++◌, drop, map, take}
use Rattle.nav_handle.specs.Looking.{face_told}
use Rattle.nav_handle.proofs.faces.lay_faces.Given as goal

-- the places so far have what is told, the others are as they were
abbrev pub invariant-loop-place : goal.invariant-loop-place
invariant-loop-place l = l.room ≡ take l.place (map face_told l.polygons) ++ drop l.place l.fn.room
