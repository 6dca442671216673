use Rattle.std.proofs.Common.{arith}
use Rattle.nav_handle.proofs.Laying.{told_more}
use Rattle.registry_handle.specs.Rows.{row_told}
use Rattle.registry_handle.proofs.rows.lay_rows.Goals as goal

pub loop-place-preserved : goal.loop-place-preserved
loop-place-preserved c =
    told_more row_told c.args.rows.now c.args.room.now c.loop-place.room c.loop-place.place _ c.row_told.result
    (omega (arith, c.loop-place-test.true, c.min-count.ensures)) (omega (arith, c.loop-place-test.true, c.min-count.ensures)) c.loop-place.invariant
    c.row_told.ensures
