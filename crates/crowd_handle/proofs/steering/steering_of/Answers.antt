use Rattle.std.proofs.Common.{◌++◌, ◌∷◌, [], ap, ◌∙◌, sym, map}
use Rattle.std.proofs.lemmas.List.{map_more, take_all}
use Rattle.crowd_handle.specs.CrowdSteering.{own_steering}
use Rattle.crowd_handle.proofs.Telling.{no_agent}
use Rattle.crowd_handle.proofs.steering.steering_of.Goals as goal

pub loop-agent-preserved : goal.loop-agent-preserved
loop-agent-preserved c =
    c.in_ok-push.ensures.items ∙ (λ i. c.loop-agent.invariant i ++ c.own_steering.ensures i ∷ [])
    ∙ sym (map_more own_steering c.args.agents.now c.loop-agent.agent-index no_agent c.loop-agent-test.true)

pub returns : goal.returns
returns c = c.loop-agent.invariant ∙ ap (map own_steering) (take_all c.loop-agent.agent-index c.args.agents.now c.loop-agent-test.false)
