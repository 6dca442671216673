use Rattle.std.proofs.Common.{◌∙◌, arith}
use Rattle.crowd_handle.specs.Slimming.{radius_told}
use Rattle.crowd_handle.proofs.Telling.{no_agent, no_crowd_agent, told_all, told_one_more}
use Rattle.crowd_handle.proofs.slimming.tell_radii.Goals as goal

pub loop-place-preserved : goal.loop-place-preserved
loop-place-preserved c =
    told_one_more radius_told c.args.after.now c.args.room.now c.loop-place.room c.loop-place.place no_crowd_agent no_agent c.tell_radius.new.agent
    (omega (arith, c.loop-place-test.true, c.min-count.ensures)) (omega (arith, c.loop-place-test.true, c.min-count.ensures)) c.loop-place.invariant c.tell_radius.ensures

pub returns : goal.returns
returns c =
    c.loop-place.invariant
    ∙ told_all radius_told c.args.after.now c.args.room.now c.loop-place.place (λ there. omega (arith, there, c.loop-place-test.false, c.min-count.ensures))
