use Rattle.std.proofs.Common.{arith}
use Rattle.nav_handle.proofs.Laying.{told_more}
use Rattle.wall_handle.specs.Walls.{wall_told}
use Rattle.wall_handle.proofs.around.lay_walls.Goals as goal

pub loop-place-preserved : goal.loop-place-preserved
loop-place-preserved c =
    told_more wall_told c.args.walls.now c.args.room.now c.loop-place.room c.loop-place.place _ c.wall_told.result
    (omega (arith, c.loop-place-test.true, c.min-count.ensures)) (omega (arith, c.loop-place-test.true, c.min-count.ensures)) c.loop-place.invariant c.wall_told.ensures
