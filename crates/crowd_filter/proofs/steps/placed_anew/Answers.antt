use Rattle.crowd_moves.proofs.StepLaws.{no_agent}
use Rattle.crowd_filter.proofs.StepParts.{placed_more}
use Rattle.crowd_filter.proofs.steps.placed_anew.Goals as goal

pub loop-i-preserved : goal.loop-i-preserved
loop-i-preserved c =
    placed_more c.args.mesh.now c.args.agents.now c.loop-i.i c.loop-i.placed.items c.push.new.self.items no_agent c.place.result c.loop-i.invariant
    c.place.ensures.placed c.place.ensures.agent c.in_ok-push.ensures.items
