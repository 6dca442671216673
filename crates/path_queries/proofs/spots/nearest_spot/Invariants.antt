use Rattle.path_queries.specs.Spots.{IsNearestBefore}
use Rattle.path_queries.proofs.spots.nearest_spot.Given as goal

-- what was found among the polygons so far
abbrev pub invariant-loop-place : goal.invariant-loop-place
invariant-loop-place l = IsNearestBefore l.mesh l.areas l.first l.toward l.reached l.place l.nearest
