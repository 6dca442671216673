use Rattle.std.proofs.Common.{ℕ, ◌<◌}
use Rattle.std.specs.Prelude.{slice_index_or}
use Rattle.path_queries.specs.declared.nearest.Goal.{Goal}
use Rattle.path_queries.specs.NearestGoals.{HasGoalCoordinates}
use Rattle.tests_ways.proofs.nearest.have_coordinates.Given as goal

-- the points of the goals so far have coordinates
abbrev pub invariant-loop-goal : goal.invariant-loop-goal
invariant-loop-goal l = (k : ℕ) (d : Goal) → k < l.goal-index → HasGoalCoordinates (slice_index_or l.goals k d)
