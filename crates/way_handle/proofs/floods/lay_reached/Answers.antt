use Rattle.std.proofs.Common.{arith}
use Rattle.way_handle.specs.Flooding.{reached_told}
use Rattle.nav_handle.proofs.Laying.{told_more}
use Rattle.way_handle.proofs.floods.lay_reached.Goals as goal

pub loop-place-preserved : goal.loop-place-preserved
loop-place-preserved c =
    told_more reached_told c.args.list.now c.args.room.now c.loop-place.room c.loop-place.place _ c.reached_told.result
    (omega (arith, c.loop-place-test.true, c.min-count.ensures)) (omega (arith, c.loop-place-test.true, c.min-count.ensures)) c.loop-place.invariant c.reached_told.ensures
