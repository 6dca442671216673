use Rattle.std.specs.Prelude.{All}
use Rattle.crowd_moves.specs.Pairs.{HasSizes}
use Rattle.crowd_step.specs.Slim.{AreAllApart}
use Rattle.crowd_step.proofs.SlimLaws.{AreSlimmedSo}
use Rattle.crowd_step.proofs.slim_agents.slim.Given as goal

-- the agents so far have their radii anew, and all are as far apart as they were
abbrev pub invariant-loop-i : goal.invariant-loop-i
invariant-loop-i l =
    AreSlimmedSo l.height l.rules.hz l.full l.steering l.fn.agents l.agents l.i × All HasSizes l.agents
    × (AreAllApart l.height l.fn.agents → AreAllApart l.height l.agents)
