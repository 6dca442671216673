use Rattle.std.proofs.Common.{◌≡◌, ap, ◌∙◌, arith}
use Rattle.std.specs.Prelude.{fold}
use Rattle.agent_erode.specs.Reaching.{reached, axis_ends, axis_ends_from}
use Rattle.agent_erode.proofs.Reaches.{step_more, order_grows}
use Rattle.agent_erode.proofs.reach.Reached.step_along.Goals as goal

pub at-requires : goal.at-requires
at-requires c =
    let grows = order_grows (axis_ends_from c.args.table.now c.args.self.now.order c.args.first c.loop-place.place) c.args.self.now c.loop-place.self c.loop-place.invariant in
    omega arith

pub loop-place-preserved : goal.loop-place-preserved
loop-place-preserved c =
    step_more (axis_ends c.args.table.now) c.args.self.now c.loop-place.self c.axis_steps.new.self c.args.first c.loop-place.place c.at.result
    (omega arith) (omega arith) c.loop-place.invariant c.at.ensures c.in_ok-axis_steps.ensures

pub returns-clause-reached : goal.returns-clause-reached
returns-clause-reached c =
    let same : c.loop-place.place ≡ c.args.end = omega arith in
    c.loop-place.invariant ∙ ap (λ n. fold reached c.args.self.now (axis_ends_from c.args.table.now c.args.self.now.order c.args.first n)) same

pub returns-clause-grows : goal.returns-clause-grows
returns-clause-grows c =
    order_grows (axis_ends_from c.args.table.now c.args.self.now.order c.args.first c.loop-place.place) c.args.self.now c.loop-place.self c.loop-place.invariant
