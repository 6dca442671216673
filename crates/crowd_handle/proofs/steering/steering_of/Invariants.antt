use Rattle.std.proofs.Common.{◌≡◌, map, take}
use Rattle.crowd_handle.specs.CrowdSteering.{own_steering}
use Rattle.crowd_handle.proofs.steering.steering_of.Given as goal

-- the steering of the agents so far
abbrev pub invariant-loop-agent : goal.invariant-loop-agent
invariant-loop-agent l = l.list.items ≡ map own_steering (take l.agent-index l.agents)
