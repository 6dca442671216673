use Rattle.build_queue.proofs.SameShapes.{told_same}
use Rattle.nav_version.proofs.press.is_same_shape.Goals as goal

pub returns : goal.returns
returns c = told_same c.args.a.now c.args.b.now c.eq.result c.eq.ensures
