use Rattle.std.proofs.Common.{arith, sym, ◌∙◌}
use Rattle.tile_links.proofs.MeetingPlaces.{one_more_met, none_met, all_met}
use Rattle.tile_links.proofs.portals.run_len.Goals as goal
use Rattle.tile_links.proofs.portals.run_len.Goals.{then-loop-end-test+else-are_met, else-loop-end-test}

pub loop-end-preserved : goal.loop-end-preserved
loop-end-preserved c =
    let more = one_more_met c.args.entry.now c.args.other.now c.loop-end.end (omega arith) (sym c.are_met.ensures ∙ c.if-are_met.true) in
    record { after = omega arith; within = omega arith; same = omega (arith, more, c.loop-end.invariant.same) }

pub returns-clause-value : goal.returns-clause-value
returns-clause-value c = elim c.loop-end-test.branch [
  | then-loop-end-test+else-are_met w ↦
      let none = none_met c.args.entry.now c.args.other.now c.loop-end.end (omega (arith, w.loop-end-test.true)) (sym w.are_met.ensures ∙ w.if-are_met.false) in
      omega (arith, none, c.loop-end.invariant.same)
  | else-loop-end-test w ↦
      let none = all_met c.args.entry.now c.args.other.now c.loop-end.end (omega (arith, w.loop-end-test.false)) in
      omega (arith, none, c.loop-end.invariant.same)
]
