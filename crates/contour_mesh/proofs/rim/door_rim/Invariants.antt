use Rattle.std.proofs.Common.{◌≡◌, take}
use Rattle.std.specs.List.{flat_map}
use Rattle.contour_mesh.specs.RimTables.{entries_in}
use Rattle.contour_mesh.proofs.rim.door_rim.Given as goal

-- the entries of the doors so far
abbrev pub invariant-loop-door : goal.invariant-loop-door
invariant-loop-door l = l.rim.items ≡ flat_map (entries_in l.window l.tables) (take l.door-index l.doors)
