use Rattle.crowd_moves.specs.Pairs.{HasSizes}
use Rattle.crowd_step.proofs.PlacedLaws.{all_more}
use Rattle.crowd_step.proofs.sights.wide_agents.Goals as goal

pub loop-i-preserved : goal.loop-i-preserved
loop-i-preserved c =
    all_more HasSizes c.loop-i.wide.items c.push.new.self.items c.loop-i.i c.wide_agent.result c.loop-i.invariant c.wide_agent.ensures c.in_ok-push.ensures.items
