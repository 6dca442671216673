use Rattle.std.proofs.Common.{arith}
use Rattle.nav_handle.specs.Hopping.{step_told}
use Rattle.nav_handle.proofs.Laying.{told_more}
use Rattle.nav_handle.proofs.hops.lay_steps.Goals as goal

pub loop-place-preserved : goal.loop-place-preserved
loop-place-preserved c =
    told_more step_told c.args.steps.now c.args.room.now c.loop-place.room c.loop-place.place _ c.step_told.result
    (omega (arith, c.loop-place-test.true, c.min-count.ensures)) (omega (arith, c.loop-place-test.true, c.min-count.ensures)) c.loop-place.invariant c.step_told.ensures
