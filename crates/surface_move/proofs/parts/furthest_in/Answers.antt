use Rattle.std.proofs.Common.{◌+◌, ap}
use Rattle.surface_move.specs.declared.nearby.StepRange.{StepRange}
use Rattle.surface_move.specs.Ways.{HoldsNear}
use Rattle.surface_move.proofs.Reaches.{found, none_left}
use Rattle.surface_move.proofs.parts.furthest_in.Goals as goal

pub returns-then-holds_near : goal.returns-then-holds_near
returns-then-holds_near c =
    let more : StepRange = record { least = c.from.result + 1; most = c.from-2.result } in
    found (HoldsNear c.args.polygon.now c.args.way.from c.args.way.to) c.args.gone c.args.rest c.loop-step.step more c.possible_steps-possible.result
    (ap (λ n. n + 1) c.from.ensures) c.from-2.ensures c.possible_steps-possible.ensures.least c.possible_steps-possible.ensures.most c.possible_steps-possible.ensures.all
    c.loop-step.invariant.1 c.loop-step.invariant.0 c.loop-step-test.true (c.holds_near.ensures.0 c.if-holds_near.true)

pub returns : goal.returns
returns c =
    let more : StepRange = record { least = c.from.result + 1; most = c.from-2.result } in
    none_left (HoldsNear c.args.polygon.now c.args.way.from c.args.way.to) c.args.gone c.args.rest c.loop-step.step more c.possible_steps-possible.result
    (ap (λ n. n + 1) c.from.ensures) c.from-2.ensures c.possible_steps-possible.ensures.least c.possible_steps-possible.ensures.most c.possible_steps-possible.ensures.all
    c.loop-step.invariant.1 c.loop-step-test.false
