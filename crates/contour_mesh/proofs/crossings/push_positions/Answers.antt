use Rattle.std.proofs.Common.{ap, arith}
use Rattle.nav_ground.specs.Directions.{number}
use Rattle.mesh_types.specs.DoorRim.{end_position, first_position}
use Rattle.contour_mesh.specs.SidePlaces.{door_at}
use Rattle.contour_mesh.proofs.Steps.{made_all, made_more}
use Rattle.contour_mesh.proofs.crossings.push_positions.Goals as goal

pub loop-position-preserved : goal.loop-position-preserved
loop-position-preserved c =
    let door = c.args.door.now in
    let side = number c.args.side in
    made_more (door_at door side) c.args.placed.now.items (first_position side door) (end_position side door) c.loop-position.position
    c.loop-position.placed.items c.push.new.self.items (door_at door c.index.result c.loop-position.position)
    (omega (arith, c.loop-position.auto.position, c.first_position-position.ensures))
    (omega (arith, c.loop-position-test.true, c.end_position-position-end.ensures)) c.loop-position.invariant c.in_ok-push.ensures.items
    (ap (λ s. door_at door s c.loop-position.position) c.index.ensures.value)

pub returns : goal.returns
returns c =
    let door = c.args.door.now in
    let side = number c.args.side in
    made_all (door_at door side) c.args.placed.now.items (first_position side door) (end_position side door) c.loop-position.position
    c.loop-position.placed.items (omega (arith, c.loop-position-test.false, c.end_position-position-end.ensures)) c.loop-position.invariant
