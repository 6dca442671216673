use Rattle.std.proofs.Common.{ℕ, ◌<◌, get_or}
use Rattle.std.specs.Prelude.{IsTrue}
use Rattle.crowd_moves.specs.declared.agents.CrowdAgent.{CrowdAgent}
use Rattle.crowd_moves.specs.Pairs.{is_apart}
use Rattle.crowd_moves.proofs.pairs.has_room.Given as goal

-- the agent is apart from those so far
abbrev pub invariant-loop-other : goal.invariant-loop-other
invariant-loop-other l = (k : ℕ) (d : CrowdAgent) → k < l.other-index → IsTrue (is_apart l.height l.agent (get_or l.agents k d))
