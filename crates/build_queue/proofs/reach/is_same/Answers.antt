use Rattle.build_queue.proofs.SameShapes.{told_same}
use Rattle.build_queue.proofs.reach.is_same.Goals as goal

pub returns : goal.returns
returns c = told_same c.args.a.now c.args.b.now c.eq.result c.eq.ensures
