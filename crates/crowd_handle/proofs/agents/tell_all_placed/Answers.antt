use Rattle.std.proofs.Common.{◌∙◌, arith}
use Rattle.crowd_handle.specs.Agents.{placed_told}
use Rattle.crowd_handle.proofs.Telling.{no_agent, no_crowd_agent, told_all, told_one_more}
use Rattle.crowd_handle.proofs.agents.tell_all_placed.Goals as goal

pub loop-place-preserved : goal.loop-place-preserved
loop-place-preserved c =
    told_one_more placed_told c.args.placed.now c.args.room.now c.loop-place.room c.loop-place.place no_crowd_agent no_agent c.tell_placed.new.agent
    (omega (arith, c.loop-place-test.true, c.min-count.ensures)) (omega (arith, c.loop-place-test.true, c.min-count.ensures)) c.loop-place.invariant c.tell_placed.ensures

pub returns : goal.returns
returns c =
    c.loop-place.invariant
    ∙ told_all placed_told c.args.placed.now c.args.room.now c.loop-place.place (λ there. omega (arith, there, c.loop-place-test.false, c.min-count.ensures))
