use Rattle.std.proofs.Common.{◌-◌, [], ap, arith, length}
use Rattle.std.proofs.lemmas.List.FromFn.{length-map-range_with_len}
use Rattle.nav_ground.specs.Directions.{number}
use Rattle.mesh_types.specs.Runs.{label_if}
use Rattle.mesh_types.specs.DoorRim.{end_position, first_position}
use Rattle.contour_mesh.specs.RimTables.{is_listed_in}
use Rattle.contour_mesh.proofs.Steps.{made_all, made_more}
use Rattle.contour_mesh.proofs.rim.label_positions.Goals as goal

pub loop-position-preserved : goal.loop-position-preserved
loop-position-preserved c =
    let door = c.args.on.door.now in
    let side = number c.args.on.side in
    made_more (λ position. label_if (is_listed_in c.args.on.tables.now door side position)) [] (first_position side door) (end_position side door)
    c.loop-position.position c.loop-position.labels.items c.push.new.self.items c.label.result
    (omega (arith, c.loop-position.auto.position, c.first_position-position.ensures))
    (omega (arith, c.loop-position-test.true, c.end_position-position-end.ensures)) c.loop-position.invariant c.in_ok-push.ensures.items c.label.ensures

pub returns-clause-value : goal.returns-clause-value
returns-clause-value c =
    let door = c.args.on.door.now in
    let side = number c.args.on.side in
    made_all (λ position. label_if (is_listed_in c.args.on.tables.now door side position)) [] (first_position side door) (end_position side door)
    c.loop-position.position c.loop-position.labels.items (omega (arith, c.loop-position-test.false, c.end_position-position-end.ensures))
    c.loop-position.invariant

pub returns-clause-inside : goal.returns-clause-inside
returns-clause-inside c =
    let door = c.args.on.door.now in
    let side = number c.args.on.side in
    let made = made_all (λ position. label_if (is_listed_in c.args.on.tables.now door side position)) [] (first_position side door) (end_position side door)
    c.loop-position.position c.loop-position.labels.items (omega (arith, c.loop-position-test.false, c.end_position-position-end.ensures))
    c.loop-position.invariant in
    omega (
      arith,
      ap length made,
      length-map-range_with_len (λ position. label_if (is_listed_in c.args.on.tables.now door side position)) (first_position side door)
          (end_position side door - first_position side door),
      c.first_position-position.ensures,
      c.end_position-position-end.ensures,
      c.first_position-position.type_inv,
      c.end_position-position-end.type_inv,
    )
