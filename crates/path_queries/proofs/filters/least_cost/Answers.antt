use Rattle.std.proofs.Common.{sym, ◌∙◌, arith}
use Rattle.path_queries.proofs.SearchCosts.{least-all, least-closed, least-open}
use Rattle.path_queries.proofs.filters.least_cost.Goals as goal
use Rattle.path_queries.proofs.filters.least_cost.Goals.{then-is_open, else-is_open}

pub loop-area-preserved : goal.loop-area-preserved
loop-area-preserved c =
    let areas = c.args.areas in
    let costs = c.args.costs.now in
    elim c.if-is_open.branch [
      | then-is_open w ↦
          rw w.least-is (rw w.min-least.ensures
          (least-open areas costs c.loop-area.area c.loop-area.least c.loop-area.auto.area c.loop-area.invariant
          (sym c.is_open.ensures ∙ w.if-is_open.true)))
      | else-is_open w ↦
          rw w.least-is (least-closed areas costs c.loop-area.area c.loop-area.least c.loop-area.invariant
          (sym c.is_open.ensures ∙ w.if-is_open.false))
    ]

pub returns : goal.returns
returns c =
    least-all c.args.areas c.args.costs.now c.loop-area.area c.loop-area.least (omega (arith, c.loop-area-test.false)) c.loop-area.invariant
    (omega (arith, c.loop-area.auto.area-end))
