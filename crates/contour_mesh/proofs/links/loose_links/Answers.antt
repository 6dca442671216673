use Rattle.std.proofs.Common.{◌∙◌, ◌++◌, [], Option, ap, get_or}
use Rattle.std.specs.Option.{option_map}
use Rattle.std.specs.List.{cons_option, filter_map}
use Rattle.std.proofs.lemmas.List.{take_all}
use Rattle.mesh_types.specs.declared.region.PortalEdge.{PortalEdge}
use Rattle.mesh_types.specs.Doors.{door_link, link_through}
use Rattle.contour_mesh.proofs.FacingLaws.{facing_is, meets_sorted, no_door}
use Rattle.contour_mesh.proofs.Steps.{one_more_found}
use Rattle.contour_mesh.proofs.links.loose_links.Goals as goal

pub facing-requires-clause-meet : goal.facing-requires-clause-meet
facing-requires-clause-meet c =
    meets_sorted c.args.doors.now c.args.by_begin.now (get_or c.args.doors.now c.loop-door.door-index no_door) c.requires.order (c.requires.meet c.loop-door.door-index no_door c.loop-door-test.true)

pub loop-door-preserved : goal.loop-door-preserved
loop-door-preserved c =
    one_more_found (link_through c.args.tile c.args.doors.now) c.args.doors.now c.loop-door.door-index no_door c.loop-door.links.items c.push_link.new.links.items
    c.loop-door-test.true c.loop-door.invariant
    (c.in_ok-push_link.ensures
    ∙ ap (λ (o : Option PortalEdge). c.loop-door.links.items ++ cons_option (option_map (door_link c.args.tile (get_or c.args.doors.now c.loop-door.door-index no_door)) o) [])
    (c.facing.ensures ∙ facing_is c.args.doors.now c.args.by_begin.now (get_or c.args.doors.now c.loop-door.door-index no_door) c.requires.order (c.requires.meet c.loop-door.door-index no_door c.loop-door-test.true)))

pub facing-requires-clause-order : goal.facing-requires-clause-order
facing-requires-clause-order c = c.requires.order.rising

pub push_link-requires : goal.push_link-requires
push_link-requires c = c.requires.corners c.loop-door.door-index no_door c.loop-door-test.true

pub returns : goal.returns
returns c =
    c.loop-door.invariant
    ∙ ap (filter_map (link_through c.args.tile c.args.doors.now)) (take_all c.loop-door.door-index c.args.doors.now c.loop-door-test.false)
