use Rattle.std.proofs.Common.{◌∙◌, sym}
use Rattle.contour_walk.proofs.Earliest.{earlier_found, earliest_stays}
use Rattle.contour_walk.proofs.round.least_beginning.Goals as goal
use Rattle.contour_walk.proofs.round.least_beginning.Goals.{then-is_before, else-is_before}

pub loop-k-preserved : goal.loop-k-preserved
loop-k-preserved c =
    elim c.if-is_before.branch [
      | then-is_before w ↦
          earlier_found c.args.edges.now c.loop-k.least c.if-is_before.least c.loop-k.k _ w.least-is c.loop-k-test.true c.loop-k.invariant.0
          (sym c.is_before.ensures ∙ w.if-is_before.true) c.loop-k.invariant.1
      | else-is_before w ↦
          earliest_stays c.args.edges.now c.loop-k.least c.if-is_before.least c.loop-k.k _ w.least-is c.loop-k-test.true c.loop-k.invariant.0
          (sym c.is_before.ensures ∙ w.if-is_before.false) c.loop-k.invariant.1
    ]
