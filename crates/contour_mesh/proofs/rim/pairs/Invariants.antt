use Rattle.std.proofs.Common.{◌≡◌, map}
use Rattle.std.specs.List.{range_with_len}
use Rattle.nav_ground.specs.Directions.{number}
use Rattle.contour_mesh.specs.RimTables.{pair_in}
use Rattle.contour_mesh.proofs.rim.pairs.Given as goal

-- the levels at the places so far
abbrev pub invariant-loop-place : goal.invariant-loop-place
invariant-loop-place l = l.pairs.items ≡ map (pair_in l.on.tables.now l.on.door.now (number l.on.side)) (range_with_len l.first l.place)
