use Rattle.std.specs.Prelude.{not}
use Rattle.std.specs.List.{count_by}
use Rattle.ray_walk.specs.Walking.{is_visited}
use Rattle.ray_walk.proofs.Visits.{polygons_of}
use Rattle.ray_walk.proofs.WalkLaws.{IsOnWay}
use Rattle.ray_walk.proofs.raycast.walk.Given as goal

-- the walk is on its way
abbrev pub invariant-loop-onward : goal.invariant-loop-onward
invariant-loop-onward l = IsOnWay l.mesh l.fn.first l.ray l.visited l.at

-- how many polygons it has not visited
abbrev pub decreases-loop-onward : goal.decreases-loop-onward
decreases-loop-onward l = count_by (λ p. not (is_visited l.visited p)) (polygons_of l.mesh)
