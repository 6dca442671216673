use Rattle.path_queries.specs.Spots.{IsKeptAt}
use Rattle.path_queries.proofs.spots.likely_place.Given as goal

-- the place found so far is one from which walks may lead on
abbrev pub invariant-loop-place : goal.invariant-loop-place
invariant-loop-place l = IsKeptAt l.mesh l.areas l.first l.reached l.likely
