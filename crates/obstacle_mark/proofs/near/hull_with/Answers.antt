use Rattle.std.proofs.Common.{subst, Option}
use Rattle.nav_ground.specs.declared.cell.Window.{Window}
use Rattle.obstacle_mark.specs.Near.{HoldsBlocked}
use Rattle.obstacle_mark.proofs.NearLaws.{holds_first, holds_both}
use Rattle.obstacle_mark.proofs.near.hull_with.Goals as goal

pub returns-in-Some : goal.returns-in-Some
returns-in-Some c = λ shapes holds.
    holds_both shapes c.args.shape.now c.in-Some.before c.bounds.result c.both.result
    (subst (λ (w : Option Window). HoldsBlocked shapes w) c.in-Some.is holds) c.bounds.ensures.covered c.both.ensures

pub returns-in-None : goal.returns-in-None
returns-in-None c = λ shapes holds.
    holds_first shapes c.args.shape.now c.bounds-in-None.result
    (subst (λ (w : Option Window). HoldsBlocked shapes w) c.in-None.is holds) c.bounds-in-None.ensures.covered
