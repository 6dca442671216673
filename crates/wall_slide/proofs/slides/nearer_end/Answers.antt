use Rattle.std.proofs.lemmas.Bool.{iff_false}
use Rattle.wall_slide.proofs.EndLaws.{end_coordinates, found, is_motion, looks_there, stays}
use Rattle.wall_slide.proofs.slides.nearer_end.Goals as goal

pub polygon_at-requires-clause-there : goal.polygon_at-requires-clause-there
polygon_at-requires-clause-there c = looks_there c.args.mesh.now c.args.asked.now c.requires.sound c.requires.start c.args.at c.requires.looks

pub nearer_in-point-requires-clause-motion : goal.nearer_in-point-requires-clause-motion
nearer_in-point-requires-clause-motion c = is_motion c.args.mesh.now c.args.asked.now c.requires.sound c.requires.start

pub nearer_in-point-requires-clause-best : goal.nearer_in-point-requires-clause-best
nearer_in-point-requires-clause-best c =
    end_coordinates c.args.mesh.now c.args.asked.now c.requires.sound c.requires.start c.args.best c.requires.best

pub returns-then-is_same : goal.returns-then-is_same
returns-then-is_same c =
    stays c.args.mesh.now c.args.asked.now c.requires.sound c.requires.start c.args.at c.polygon_at.result c.polygon_at.ensures.named c.args.best
    c.nearer_in-point.result c.nearer_in-point.ensures c.requires.best (c.is_same.ensures.0 c.if-is_same.true)

pub returns : goal.returns
returns c =
    found c.args.mesh.now c.args.asked.now c.requires.sound c.requires.start c.args.at c.polygon_at.result c.polygon_at.ensures.named c.args.best
    c.nearer_in-point.result c.nearer_in-point.ensures c.requires.looks (iff_false c.is_same.ensures c.if-is_same.false)
