use Rattle.std.proofs.Common.{arith, refl}
use Rattle.nav_handle.proofs.Laying.{placed_more}
use Rattle.nav_handle.proofs.ends.lay_numbers.Goals as goal

pub loop-place-preserved : goal.loop-place-preserved
loop-place-preserved c =
    placed_more c.args.numbers.now c.args.room.now c.loop-place.room c.loop-place.place _ _
    (omega (arith, c.loop-place-test.true, c.min-count.ensures)) (omega (arith, c.loop-place-test.true, c.min-count.ensures)) c.loop-place.invariant refl
