use Rattle.std.proofs.Common.{ℕ, ◌∙◌, ◌++◌, [], List, Option, ap, get_or, sym}
use Rattle.std.specs.Prelude.{option_map}
use Rattle.std.specs.List.{flat_map}
use Rattle.std.specs.Option.{option_map_or}
use Rattle.std.proofs.lemmas.List.{append-nil, take_all}
use Rattle.nav_ground.specs.Directions.{number}
use Rattle.mesh_types.specs.declared.mesh.RimEdge.{RimEdge}
use Rattle.contour_mesh.specs.RimTables.{entries_in, entries_on}
use Rattle.contour_mesh.proofs.FacingLaws.{no_door}
use Rattle.contour_mesh.proofs.Steps.{one_more_gathered}
use Rattle.contour_mesh.proofs.rim.door_rim.Goals as goal
use Rattle.contour_mesh.proofs.rim.door_rim.Goals.{in-Some+in_ok-push_entries, in_default}

pub loop-door-preserved : goal.loop-door-preserved
loop-door-preserved c =
    let door = get_or c.args.doors.now c.loop-door.door-index no_door in
    let before = c.loop-door.rim.items in
    let listed : Option ℕ → List RimEdge = λ side. before ++ option_map_or (entries_on c.args.tables.now door) side [] in
    one_more_gathered (entries_in c.args.window.now c.args.tables.now) c.args.doors.now c.loop-door.door-index no_door before _ c.loop-door-test.true
    c.loop-door.invariant
    (elim c.match-side_of.branch [
      | in-Some+in_ok-push_entries w ↦ (λ i. (w.rim-is i).items) ∙ w.in_ok-push_entries.ensures ∙ ap listed (ap (option_map number) (sym w.in-Some.is) ∙ c.side_of.ensures)
      | in_default w ↦ (λ i. (w.rim-is i).items) ∙ sym (append-nil before) ∙ ap listed (ap (option_map number) (sym w.in_default.is) ∙ c.side_of.ensures)
    ])

pub returns : goal.returns
returns c =
    c.from_vec.ensures ∙ c.loop-door.invariant
    ∙ ap (flat_map (entries_in c.args.window.now c.args.tables.now)) (take_all c.loop-door.door-index c.args.doors.now c.loop-door-test.false)
