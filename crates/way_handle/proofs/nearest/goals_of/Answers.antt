use Rattle.std.proofs.Common.{◌++◌, ◌∷◌, [], ap, ◌∙◌, sym, map}
use Rattle.std.proofs.lemmas.List.{map_more, take_all}
use Rattle.way_handle.specs.Nearing.{goal_of}
use Rattle.way_handle.proofs.GoalLaws.{no_goal}
use Rattle.way_handle.proofs.nearest.goals_of.Goals as goal

pub loop-goal-preserved : goal.loop-goal-preserved
loop-goal-preserved c =
    c.in_ok-push.ensures.items ∙ (λ i. c.loop-goal.invariant i ++ c.goal_of.ensures i ∷ [])
    ∙ sym (map_more goal_of c.args.goals.now c.loop-goal.goal-index no_goal c.loop-goal-test.true)

pub returns : goal.returns
returns c = c.from_vec.ensures ∙ c.loop-goal.invariant ∙ ap (map goal_of) (take_all c.loop-goal.goal-index c.args.goals.now c.loop-goal-test.false)
