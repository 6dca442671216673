use Rattle.std.proofs.Common.{◌∙◌, sym, length}
use Rattle.agent_erode.specs.Reaching.{has_gap}
use Rattle.agent_erode.proofs.Reaches.{range_more, range_less}
use Rattle.agent_erode.proofs.reach.Reached.reach_boundary.Goals as goal
use Rattle.agent_erode.proofs.reach.Reached.reach_boundary.Goals.{then-has_gap+in_ok-reach, else-has_gap}

pub loop-i-preserved : goal.loop-i-preserved
loop-i-preserved c =
    let gap = has_gap c.args.table.now (length c.args.table.now) in
    elim c.if-has_gap.branch [
      | then-has_gap+in_ok-reach w ↦
          range_more gap c.args.self.now c.loop-i.self c.if-has_gap.self c.loop-i.i (sym c.has_gap.ensures ∙ w.if-has_gap.true) c.loop-i.invariant
          (w.self-is ∙ w.in_ok-reach.ensures)
      | else-has_gap w ↦ w.self-is ∙ range_less gap c.args.self.now c.loop-i.self c.loop-i.i (sym c.has_gap.ensures ∙ w.if-has_gap.false) c.loop-i.invariant
    ]
