use Rattle.std.proofs.Common.{arith}
use Rattle.nav_handle.specs.Wire.{link_told}
use Rattle.nav_handle.proofs.Laying.{told_more}
use Rattle.nav_handle.proofs.ends.lay_links.Goals as goal

pub loop-place-preserved : goal.loop-place-preserved
loop-place-preserved c =
    told_more link_told c.args.links.now c.args.room.now c.loop-place.room c.loop-place.place _ c.link_told.result
    (omega (arith, c.loop-place-test.true, c.min-count.ensures)) (omega (arith, c.loop-place-test.true, c.min-count.ensures)) c.loop-place.invariant c.link_told.ensures
