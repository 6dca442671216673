use Rattle.std.proofs.Common.{◌≡◌, map, take}
use Rattle.way_handle.specs.Nearing.{goal_of}
use Rattle.way_handle.proofs.nearest.goals_of.Given as goal

-- the goals so far
abbrev pub invariant-loop-goal : goal.invariant-loop-goal
invariant-loop-goal l = l.list.items ≡ map goal_of (take l.goal-index l.goals)
