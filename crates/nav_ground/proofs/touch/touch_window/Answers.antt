use Rattle.std.proofs.Common.{subst, sym}
use Rattle.nav_ground.proofs.TouchLaws.{IsNearField, bounds_near}
use Rattle.nav_ground.proofs.touch.touch_window.Goals as goal

pub widened-requires-clause-x0 : goal.widened-requires-clause-x0
widened-requires-clause-x0 c = (subst IsNearField (sym c.bounds.ensures.value) (bounds_near c.args.shape.now c.requires.shape)).x0

pub widened-requires-clause-x1 : goal.widened-requires-clause-x1
widened-requires-clause-x1 c = (subst IsNearField (sym c.bounds.ensures.value) (bounds_near c.args.shape.now c.requires.shape)).x1

pub widened-requires-clause-z0 : goal.widened-requires-clause-z0
widened-requires-clause-z0 c = (subst IsNearField (sym c.bounds.ensures.value) (bounds_near c.args.shape.now c.requires.shape)).z0

pub widened-requires-clause-z1 : goal.widened-requires-clause-z1
widened-requires-clause-z1 c = (subst IsNearField (sym c.bounds.ensures.value) (bounds_near c.args.shape.now c.requires.shape)).z1
