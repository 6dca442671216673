use Rattle.std.proofs.Common.{◌++◌, ◌∷◌, [], ap, ◌∙◌, sym, map}
use Rattle.std.proofs.lemmas.List.{map_more, take_all}
use Rattle.way_handle.specs.Reading.{turn_of}
use Rattle.way_handle.proofs.GoalLaws.{no_turn}
use Rattle.way_handle.proofs.reading.turns_of.Goals as goal

pub loop-turn-preserved : goal.loop-turn-preserved
loop-turn-preserved c =
    c.in_ok-push.ensures.items ∙ (λ i. c.loop-turn.invariant i ++ c.turn_of.ensures i ∷ [])
    ∙ sym (map_more turn_of c.args.turns.now c.loop-turn.turn-index no_turn c.loop-turn-test.true)

pub returns : goal.returns
returns c = c.from_vec.ensures ∙ c.loop-turn.invariant ∙ ap (map turn_of) (take_all c.loop-turn.turn-index c.args.turns.now c.loop-turn-test.false)
