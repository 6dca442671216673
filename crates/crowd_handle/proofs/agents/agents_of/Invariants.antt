use Rattle.std.proofs.Common.{◌≡◌, map, take}
use Rattle.crowd_handle.specs.Agents.{agent_of}
use Rattle.crowd_handle.proofs.agents.agents_of.Given as goal

-- the agents so far
abbrev pub invariant-loop-agent : goal.invariant-loop-agent
invariant-loop-agent l = l.list.items ≡ map agent_of (take l.agent-index l.agents)
