use Rattle.std.proofs.Common.{Option, subst}
use Rattle.std.proofs.lemmas.Result.{IfOk-weaker}
use Rattle.nav_base.specs.declared.deviation.Deviation.{Deviation}
use Rattle.wall_query.specs.declared.questions.Wall.{Wall}
use Rattle.wall_query.specs.Walls.{IsNearestWithin}
use Rattle.wall_query.proofs.BestLaws.{of_near, of_reach}
use Rattle.wall_query.proofs.nearest.nearest_reached.Goals as goal

pub returns-then-is_no_farther : goal.returns-then-is_no_farther
returns-then-is_no_farther c =
    of_near c.args.mesh.now c.args.asked.now c.lesser-near.result c.in-Some.wall c.lesser-near.ensures.fraction
    (subst (λ (wall : Option Wall). IsNearestWithin c.args.mesh.now c.args.asked.now c.lesser-near.result wall) c.in-Some.is c.in_ok-wall.ensures)
    (c.is_no_farther.ensures.0 c.if-is_no_farther.true)

pub returns : goal.returns
returns c =
    IfOk-weaker c.nearest_within-2.result _ _ (λ best is.
    of_reach c.args.mesh.now c.args.asked.now best
    (subst (λ (far : Deviation). IsNearestWithin c.args.mesh.now c.args.asked.now far best) c.square_of_reach-reach.ensures is))
    c.nearest_within-2.ensures
