use Rattle.std.proofs.Common.{◌-◌, length, arith, subst, sym}
use Rattle.std.proofs.lemmas.Result.{on_ok_weaker}
use Rattle.contour_walk.specs.Tables.{IsFit}
use Rattle.contour_walk.specs.Walk.{edge_at}
use Rattle.contour_walk.proofs.Loops.{walked}
use Rattle.contour_walk.proofs.round.push_round.Goals as goal

pub push_bottoms-requires-clause-fit : goal.push_bottoms-requires-clause-fit
push_bottoms-requires-clause-fit c = subst IsFit (sym c.index-strips-0.is) (c.requires.fit 0 c.index-strips-0.result c.requires.some)

pub push_tops-requires-clause-fit : goal.push_tops-requires-clause-fit
push_tops-requires-clause-fit c =
    subst IsFit (sym c.index-strips-strips.is)
    (c.requires.fit (length c.args.strips.now - 1) c.index-strips-strips.result (omega (arith, c.requires.some)))

pub returns : goal.returns
returns c =
    on_ok_weaker c.push_left_side.result
    (λ left. walked (edge_at c.args.rim.table.now.window c.args.rim.cells.now c.args.rim.regions.now) c.args.strips.now c.index-strips-0.result c.index-strips-strips.result
    _ _ _ _ _ c.requires.some c.index-strips-0.is c.index-strips-strips.is c.in_ok-push_bottoms.ensures
    c.in_ok-push_right_side.ensures c.in_ok-push_tops.ensures left)
    c.push_left_side.ensures
