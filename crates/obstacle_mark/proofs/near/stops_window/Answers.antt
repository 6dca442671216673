use Rattle.std.proofs.Common.{List, take, sym, subst}
use Rattle.std.proofs.lemmas.List.{take_more, take_all}
use Rattle.nav_ground.specs.declared.shape.Shape.{Shape}
use Rattle.obstacle_mark.specs.Near.{HoldsBlocked}
use Rattle.obstacle_mark.proofs.near.stops_window.Goals as goal

pub loop-shape-preserved : goal.loop-shape-preserved
loop-shape-preserved c =
    subst (λ (shapes : List Shape). HoldsBlocked shapes c.hull_with-hull.result) (sym (take_more c.args.shapes.now c.loop-shape.shape-index _ c.loop-shape-test.true))
    (c.hull_with-hull.ensures (take c.loop-shape.shape-index c.args.shapes.now) c.loop-shape.invariant)

pub returns : goal.returns
returns c =
    subst (λ (shapes : List Shape). HoldsBlocked shapes c.loop-shape.hull) (take_all c.loop-shape.shape-index c.args.shapes.now c.loop-shape-test.false)
    c.loop-shape.invariant
