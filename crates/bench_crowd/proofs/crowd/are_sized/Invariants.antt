use Rattle.std.proofs.Common.{ℕ, ◌<◌, get_or}
use Rattle.crowd_moves.specs.declared.agents.CrowdAgent.{CrowdAgent}
use Rattle.crowd_moves.specs.Pairs.{HasSizes}
use Rattle.bench_crowd.proofs.crowd.are_sized.Given as goal

-- the agents so far have sizes
abbrev pub invariant-loop-i : goal.invariant-loop-i
invariant-loop-i l = (k : ℕ) (d : CrowdAgent) → k < l.i → HasSizes (get_or l.agents k d)
