use Rattle.crowd_lead.specs.Leading.{IsNowhere}
use Rattle.crowd_lead.proofs.places.first_ahead.Given as goal

-- the agent is at none of the places so far
abbrev pub invariant-loop-place : goal.invariant-loop-place
invariant-loop-place l = IsNowhere l.mesh l.agent l.goal l.links l.known l.place
