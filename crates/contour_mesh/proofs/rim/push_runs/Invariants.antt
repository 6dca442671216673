use Rattle.std.proofs.Common.{◌≡◌, ◌++◌, map, take}
use Rattle.nav_ground.specs.Directions.{number}
use Rattle.contour_mesh.specs.RimTables.{entry_in}
use Rattle.contour_mesh.proofs.rim.push_runs.Given as goal

-- the entries along the runs so far
abbrev pub invariant-loop-part : goal.invariant-loop-part
invariant-loop-part l = l.rim.items ≡ l.initial.rim.items ++ map (entry_in l.on.tables.now l.on.door.now (number l.on.side)) (take l.part-index l.parts)
