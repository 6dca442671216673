use Rattle.std.specs.Prelude.{◌-◌}
use Rattle.crowd_lead.specs.Leading.{IsNowhere}
use Rattle.crowd_lead.proofs.places.last_behind.Given as goal

-- the agent is at none of the places so far
abbrev pub invariant-loop-back : goal.invariant-loop-back
invariant-loop-back l = IsNowhere l.mesh l.agent l.goal l.links (l.known - l.back) l.known
