use Rattle.std.proofs.Common.{◌≡◌, take}
use Rattle.std.specs.List.{flat_map}
use Rattle.contour_mesh.specs.SidePlaces.{door_places}
use Rattle.contour_mesh.proofs.crossings.placed_doors.Given as goal

-- the places of the doors so far
abbrev pub invariant-loop-door : goal.invariant-loop-door
invariant-loop-door l = l.placed.items ≡ flat_map (door_places l.window) (take l.door-index l.doors)
