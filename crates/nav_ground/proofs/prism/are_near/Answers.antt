use Rattle.std.proofs.Common.{rules, arith, pos, subst}
use Rattle.std.specs.Prelude.{All}
use Rattle.std.proofs.lemmas.List.{take_all}
use Rattle.std.proofs.lemmas.List.Elements.{All-more}
use Rattle.nav_ground.specs.Prisms.{IsNearPoint}
use Rattle.nav_ground.proofs.prism.are_near.Goals as goal

pub loop-corner-preserved : goal.loop-corner-preserved
loop-corner-preserved c =
    All-more IsNearPoint c.args.corners.now c.loop-corner.corner-index (record { x = pos 0; z = pos 0 }) (omega arith) c.loop-corner.invariant
    (c.is_near.ensures.0 (search rules))

pub returns : goal.returns
returns c =
    (λ told. subst (All IsNearPoint) (take_all c.loop-corner.corner-index c.args.corners.now (omega arith)) c.loop-corner.invariant, λ near. search rules)
