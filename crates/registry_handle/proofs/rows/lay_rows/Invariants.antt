use Rattle.std.proofs.Common.{◌≡◌, ◌++◌, drop, map, take}
use Rattle.registry_handle.specs.Rows.{row_told}
use Rattle.registry_handle.proofs.rows.lay_rows.Given as goal

-- the places so far have what is told, the others are as they were
abbrev pub invariant-loop-place : goal.invariant-loop-place
invariant-loop-place l = l.room ≡ take l.place (map row_told l.rows) ++ drop l.place l.fn.room
