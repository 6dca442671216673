use Rattle.std.proofs.Common.{◌+◌, refl}
use Rattle.contour_mesh.proofs.DoorSteps.{piece_doors_more}
use Rattle.contour_mesh.proofs.doors.push_part_doors.Goals as goal

pub loop-number-preserved : goal.loop-number-preserved
loop-number-preserved c =
    piece_doors_more c.args.part.now c.args.first c.args.region c.loop-number.number (c.args.first + c.loop-number.number) c.as_slice-pieces.result.now
    c.index-pieces-number.result c.as_slice-places.result.now c.args.doors.now.items c.loop-number.doors.items c.push_piece_doors.new.doors.items
    c.as_slice-pieces.ensures c.loop-number-test.true c.as_slice-places.ensures refl c.loop-number.invariant
    c.in_ok-push_piece_doors.ensures
