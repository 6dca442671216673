use Rattle.std.proofs.Common.{arith}
use Rattle.nav_handle.proofs.Laying.{told_more}
use Rattle.place_handle.specs.Places.{place_told}
use Rattle.place_way_handle.proofs.found.lay_places.Goals as goal

pub loop-place-preserved : goal.loop-place-preserved
loop-place-preserved c =
    told_more place_told c.args.places.now c.args.room.now c.loop-place.room c.loop-place.place _ c.place_told.result
    (omega (arith, c.loop-place-test.true, c.min-count.ensures)) (omega (arith, c.loop-place-test.true, c.min-count.ensures)) c.loop-place.invariant c.place_told.ensures
