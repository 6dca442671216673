use Rattle.std.proofs.Common.{◌∙◌, ◌++◌, length, map, ap, arith}
use Rattle.std.specs.List.{range_with_len}
use Rattle.mesh_types.specs.Doors.{door_over}
use Rattle.contour_mesh.specs.Parts.{facet_over}
use Rattle.contour_mesh.proofs.Steps.{one_more_numbered}
use Rattle.contour_mesh.proofs.doors.push_piece_doors.Goals as goal

pub loop-edge-preserved : goal.loop-edge-preserved
loop-edge-preserved c =
    one_more_numbered (door_over c.args.polygon (facet_over c.args.region c.args.outline.now c.args.places.now)) c.args.doors.now.items c.loop-edge.edge
    c.loop-edge.doors.items c.push.new.self.items c.door_over.result c.loop-edge.invariant c.in_ok-push.ensures.items c.door_over.ensures

pub returns : goal.returns
returns c =
    c.loop-edge.invariant
    ∙ ap (λ n. c.args.doors.now.items
    ++ map (door_over c.args.polygon (facet_over c.args.region c.args.outline.now c.args.places.now)) (range_with_len 0 n))
    {x = c.loop-edge.edge} {y = length c.args.places.now} (omega (arith, c.loop-edge-test.false, c.loop-edge.auto.edge-end))
