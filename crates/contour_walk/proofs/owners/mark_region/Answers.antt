use Rattle.contour_walk.proofs.Marks.{strips_marked}
use Rattle.contour_walk.proofs.owners.mark_region.Goals as goal

pub loop-k-preserved : goal.loop-k-preserved
loop-k-preserved c =
    strips_marked c.args.cells.now c.args.strips.now c.loop-k.k c.args.number c.index-strips-k.result c.args.owners.now c.loop-k.owners c.mark_strip.new.owners
    c.loop-k-test.true c.index-strips-k.is c.loop-k.invariant c.mark_strip.ensures
