use Rattle.nav_ground.specs.Directions.{number}
use Rattle.mesh_types.specs.DoorRim.{end_position, first_position}
use Rattle.contour_mesh.specs.SidePlaces.{door_at}
use Rattle.contour_mesh.proofs.Steps.{AreMadeUpTo}
use Rattle.contour_mesh.proofs.crossings.push_positions.Given as goal

-- the door at the positions so far
abbrev pub invariant-loop-position : goal.invariant-loop-position
invariant-loop-position l =
    AreMadeUpTo (door_at l.door (number l.side)) l.initial.placed.items (first_position (number l.side) l.door) (end_position (number l.side) l.door) l.position l.placed.items
