use Rattle.std.proofs.Common.{refl}
use Rattle.path_queries.specs.NearestGoals.{HasGoalCoordinates}
use Rattle.way_handle.specs.Nearing.{goal_of}
use Rattle.way_handle.proofs.GoalLaws.{each_in, no_goal, one_in}
use Rattle.way_handle.proofs.nearest.have_coordinates.Goals as goal

pub returns-then-not-has_coordinates : goal.returns-then-not-has_coordinates
returns-then-not-has_coordinates c = (
  (λ no. absurd cc),
  λ all. c.if-not-has_coordinates.ensures.1 (one_in HasGoalCoordinates goal_of c.args.goals.now c.loop-goal.goal-index no_goal c.loop-goal-test.true all),
)

pub returns : goal.returns
returns c = (
  (λ yes. each_in HasGoalCoordinates goal_of c.args.goals.now no_goal c.loop-goal.goal-index c.loop-goal-test.false (λ k before. c.loop-goal.invariant k no_goal before)),
  λ all. refl,
)
