use Rattle.wall_slide.proofs.EndLaws.{none_yet, one_more, start_is}
use Rattle.wall_slide.proofs.slides.nearest_end.Goals as goal

pub loop-at-init : goal.loop-at-init
loop-at-init c =
    none_yet c.args.mesh.now c.args.asked.now c.requires.sound c.requires.start _
    (start_is c.args.mesh.now c.args.asked.now c.requires.sound c.requires.start)

pub loop-at-preserved : goal.loop-at-preserved
loop-at-preserved c =
    one_more c.args.mesh.now c.args.asked.now c.requires.sound c.requires.start c.args.list.now c.loop-at.at-index _ c.loop-at.best c.nearer_end-best.result
    c.loop-at-test.true c.loop-at.invariant c.nearer_end-best.ensures
