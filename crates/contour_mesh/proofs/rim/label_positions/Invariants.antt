use Rattle.std.proofs.Common.{[]}
use Rattle.nav_ground.specs.Directions.{number}
use Rattle.mesh_types.specs.Runs.{label_if}
use Rattle.mesh_types.specs.DoorRim.{end_position, first_position}
use Rattle.contour_mesh.specs.RimTables.{is_listed_in}
use Rattle.contour_mesh.proofs.Steps.{AreMadeUpTo}
use Rattle.contour_mesh.proofs.rim.label_positions.Given as goal

-- the labels of the positions so far
abbrev pub invariant-loop-position : goal.invariant-loop-position
invariant-loop-position l =
    AreMadeUpTo (λ position. label_if (is_listed_in l.on.tables.now l.on.door.now (number l.on.side) position)) [] (first_position (number l.on.side) l.on.door.now) (end_position (number l.on.side) l.on.door.now) l.position
    l.labels.items
