use Rattle.std.proofs.Common.{◌∙◌, arith}
use Rattle.crowd_handle.specs.CrowdSteering.{steering_told}
use Rattle.crowd_handle.proofs.Telling.{no_agent, no_steering, told_all, told_one_more}
use Rattle.crowd_handle.proofs.steering.tell_all_steering.Goals as goal

pub loop-place-preserved : goal.loop-place-preserved
loop-place-preserved c =
    told_one_more steering_told c.args.steering.now c.args.room.now c.loop-place.room c.loop-place.place no_steering no_agent c.tell_steering.new.agent
    (omega (arith, c.loop-place-test.true, c.min-count.ensures)) (omega (arith, c.loop-place-test.true, c.min-count.ensures)) c.loop-place.invariant c.tell_steering.ensures

pub returns : goal.returns
returns c =
    c.loop-place.invariant
    ∙ told_all steering_told c.args.steering.now c.args.room.now c.loop-place.place (λ there. omega (arith, there, c.loop-place-test.false, c.min-count.ensures))
