use Rattle.std.proofs.Common.{◌≡◌, take}
use Rattle.path_queries.specs.HeldGoals.{polygons_open}
use Rattle.path_queries.proofs.nearest.open_polygons.Given as goal

-- the polygons of the goals so far
abbrev pub invariant-loop-goal : goal.invariant-loop-goal
invariant-loop-goal l = l.ends.items ≡ polygons_open l.mesh l.areas l.first (take l.goal-index l.held)
