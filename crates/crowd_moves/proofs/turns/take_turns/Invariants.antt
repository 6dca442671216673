use Rattle.crowd_moves.specs.Wishes.{AreTurns}
use Rattle.crowd_moves.proofs.turns.take_turns.Given as goal

-- the turns so far
abbrev pub invariant-loop-q : goal.invariant-loop-q
invariant-loop-q g l =
    AreTurns (g.S.MoveSpace.lets l.space) l.crowd.height l.crowd.agents.now l.wishes.order.now l.wishes.first.now l.wishes.vectors.now l.fn.moves l.q l.gains l.moves
