use Rattle.std.proofs.Common.{ℕ, ◌∙◌, ◌++◌, [], Option, ap, get_or, map}
use Rattle.std.specs.List.{flat_map}
use Rattle.std.specs.Option.{option_map_or}
use Rattle.std.proofs.lemmas.List.{take_all}
use Rattle.mesh_types.specs.DoorRim.{positions_of}
use Rattle.contour_mesh.specs.SidePlaces.{door_at, door_places}
use Rattle.contour_mesh.proofs.FacingLaws.{no_door}
use Rattle.contour_mesh.proofs.Steps.{one_more_gathered}
use Rattle.contour_mesh.proofs.crossings.placed_doors.Goals as goal

pub loop-door-preserved : goal.loop-door-preserved
loop-door-preserved c =
    let door = get_or c.args.doors.now c.loop-door.door-index no_door in
    one_more_gathered (door_places c.args.window.now) c.args.doors.now c.loop-door.door-index no_door c.loop-door.placed.items c.push_door.new.placed.items
    c.loop-door-test.true c.loop-door.invariant
    (c.in_ok-push_door.ensures
    ∙ ap (λ (side : Option ℕ). c.loop-door.placed.items ++ option_map_or (λ s. map (door_at door s) (positions_of s door)) side []) c.side_of.ensures)

pub returns : goal.returns
returns c =
    c.loop-door.invariant ∙ ap (flat_map (door_places c.args.window.now)) (take_all c.loop-door.door-index c.args.doors.now c.loop-door-test.false)
