use Rattle.std.proofs.Common.{arith, ap, ◌∙◌}
use Rattle.nav_handle.specs.Looking.{face_told}
use Rattle.nav_handle.proofs.Laying.{told_more}
use Rattle.nav_handle.proofs.faces.lay_faces.Goals as goal

pub loop-place-preserved : goal.loop-place-preserved
loop-place-preserved c =
    told_more face_told c.args.polygons.now c.args.room.now c.loop-place.room c.loop-place.place c.at.result c.face_told.result
    (omega (arith, c.loop-place-test.true, c.min-count.ensures)) (omega (arith, c.loop-place-test.true, c.min-count.ensures)) c.loop-place.invariant
    (c.face_told.ensures ∙ ap face_told (c.at.ensures c.at.result))
