use Rattle.std.proofs.Common.{◌≡◌, map, take}
use Rattle.crowd_handle.specs.Agents.{fine_point}
use Rattle.crowd_handle.proofs.agents.fine_points.Given as goal

-- the points so far
abbrev pub invariant-loop-point : goal.invariant-loop-point
invariant-loop-point l = l.list.items ≡ map fine_point (take l.point-index l.points)
