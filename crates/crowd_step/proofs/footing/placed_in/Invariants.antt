use Rattle.crowd_filter.specs.CrowdAgents.{IsCrowdAgent}
use Rattle.crowd_step.proofs.PlacedLaws.{AreAllSo}
use Rattle.crowd_step.proofs.footing.placed_in.Given as goal

-- the agents so far are placed
abbrev pub invariant-loop-i : goal.invariant-loop-i
invariant-loop-i l = AreAllSo (IsCrowdAgent l.mesh) l.placed.items l.i
