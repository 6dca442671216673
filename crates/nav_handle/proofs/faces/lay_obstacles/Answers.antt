use Rattle.std.proofs.Common.{arith, ap, ◌∙◌, get_or}
use Rattle.nav_handle.specs.Looking.{obstacle_of, obstacle_told}
use Rattle.nav_handle.proofs.Laying.{told_more}
use Rattle.nav_handle.proofs.faces.lay_obstacles.Goals as goal

pub loop-place-preserved : goal.loop-place-preserved
loop-place-preserved c =
    told_more (obstacle_of c.args.entries.now) c.args.numbers.now c.args.room.now c.loop-place.room c.loop-place.place 0 c.obstacle_told.result
    (omega (arith, c.loop-place-test.true, c.min-count.ensures)) (omega (arith, c.loop-place-test.true, c.min-count.ensures)) c.loop-place.invariant
    (c.obstacle_told.ensures ∙ ap (obstacle_told (get_or c.args.numbers.now c.loop-place.place 0)) c.shape_at.ensures)
