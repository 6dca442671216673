use Rattle.crowd_moves.proofs.StandLaws.{AreStanding}
use Rattle.crowd_moves.proofs.steps.stand.Given as goal

-- the agents so far stand
abbrev pub invariant-loop-agent : goal.invariant-loop-agent
invariant-loop-agent g l = AreStanding (g.S.MoveSpace.lets l.space) l.agents l.agent-index l.moves.items
