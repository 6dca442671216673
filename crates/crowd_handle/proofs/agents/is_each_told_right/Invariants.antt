use Rattle.std.proofs.Common.{ℕ, ◌<◌, get_or}
use Rattle.crowd_handle.specs.declared.agents.NavdAgent.{NavdAgent}
use Rattle.crowd_handle.specs.Agents.{IsAgentToldRight}
use Rattle.crowd_handle.proofs.agents.is_each_told_right.Given as goal

-- the agents so far are within their limits
abbrev pub invariant-loop-agent : goal.invariant-loop-agent
invariant-loop-agent l = (k : ℕ) (d : NavdAgent) → k < l.agent-index → IsAgentToldRight (get_or l.agents k d)
