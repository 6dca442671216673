use Rattle.crowd_filter.specs.CrowdAgents.{IsCrowdAgent}
use Rattle.crowd_step.proofs.PlacedLaws.{all_more}
use Rattle.crowd_step.proofs.footing.placed_in.Goals as goal

pub loop-i-preserved : goal.loop-i-preserved
loop-i-preserved c =
    all_more (IsCrowdAgent c.args.mesh.now) c.loop-i.placed.items c.push.new.self.items c.loop-i.i c.place.result c.loop-i.invariant c.place.ensures.agent
    c.in_ok-push.ensures.items
