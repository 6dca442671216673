use Rattle.crowd_moves.proofs.TurnLaws.{IsAfterRounds}
use Rattle.crowd_moves.proofs.turns.grant.Given as goal

-- the rounds so far
abbrev pub invariant-loop-round : goal.invariant-loop-round
invariant-loop-round g l =
    IsAfterRounds (g.S.MoveSpace.lets l.space) l.crowd.height l.crowd.agents.now l.wishes.order.now l.wishes.first.now l.wishes.vectors.now l.fn.moves l._round l.moves
