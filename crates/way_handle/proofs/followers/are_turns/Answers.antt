use Rattle.std.proofs.Common.{refl}
use Rattle.path_follow.specs.Following.{IsTurnOf}
use Rattle.way_handle.specs.Reading.{turn_of}
use Rattle.way_handle.proofs.GoalLaws.{each_in, no_turn, one_in}
use Rattle.way_handle.proofs.followers.are_turns.Goals as goal

pub returns-then-not-is_turn : goal.returns-then-not-is_turn
returns-then-not-is_turn c = (
  (λ no. absurd cc),
  λ all. c.if-not-is_turn.ensures.1 (one_in (IsTurnOf c.args.count) turn_of c.args.turns.now c.loop-turn.turn-index no_turn c.loop-turn-test.true all),
)

pub returns : goal.returns
returns c = (
  (λ yes. each_in (IsTurnOf c.args.count) turn_of c.args.turns.now no_turn c.loop-turn.turn-index c.loop-turn-test.false (λ k before. c.loop-turn.invariant k no_turn before)),
  λ all. refl,
)
