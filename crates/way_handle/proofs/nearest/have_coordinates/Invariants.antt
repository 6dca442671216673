use Rattle.std.proofs.Common.{ℕ, ◌<◌}
use Rattle.std.specs.Prelude.{slice_index_or}
use Rattle.path_queries.specs.NearestGoals.{HasGoalCoordinates}
use Rattle.way_handle.specs.declared.nearest.NavdGoal.{NavdGoal}
use Rattle.way_handle.specs.Nearing.{goal_of}
use Rattle.way_handle.proofs.nearest.have_coordinates.Given as goal

-- the points of the goals so far do
abbrev pub invariant-loop-goal : goal.invariant-loop-goal
invariant-loop-goal l = (k : ℕ) (d : NavdGoal) → k < l.goal-index → HasGoalCoordinates (goal_of (slice_index_or l.goals k d))
