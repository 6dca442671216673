use Rattle.std.proofs.Common.{◌≡◌, ◌≤◌}
use Rattle.crowd_moves.specs.Contacts.{begin_at}
use Rattle.crowd_moves.specs.Wishes.{IsNoneIn, IsOpen}
use Rattle.crowd_moves.proofs.turns.take_turn.Given as goal

-- no vector so far is open
abbrev pub invariant-loop-k : goal.invariant-loop-k
invariant-loop-k g l = record {
  same : l.moves ≡ l.fn.moves;
  from : begin_at l.wishes.first.now l.i ≤ l.k;
  none : IsNoneIn (IsOpen (g.S.MoveSpace.lets l.space) l.crowd.height l.crowd.agents.now l.moves l.i) l.wishes.first.now l.wishes.vectors.now l.i l.k;
}
