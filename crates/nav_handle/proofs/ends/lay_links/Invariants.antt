use Rattle.std.proofs.Common.{◌≡◌, ◌++◌, drop, map, take}
use Rattle.nav_handle.specs.Wire.{link_told}
use Rattle.nav_handle.proofs.ends.lay_links.Given as goal

-- the places so far have what is told, the others are as they were
abbrev pub invariant-loop-place : goal.invariant-loop-place
invariant-loop-place l = l.room ≡ take l.place (map link_told l.links) ++ drop l.place l.fn.room
