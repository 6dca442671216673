use Rattle.std.proofs.Common.{◌+◌, ◌≤◌, length}
use Rattle.path_queries.proofs.BatchLaws.{LeadFrom}
use Rattle.path_queries.proofs.batch.links_from.Given as goal

-- what leads on from the place reached does so behind the links so far, and the place has fallen at each
abbrev pub invariant-loop-at : goal.invariant-loop-at
invariant-loop-at l = record {
  lead : LeadFrom l.mesh l.list l.place l.at l.links.items;
  few : length l.links.items + l.at ≤ l.place;
}

abbrev pub decreases-loop-at : goal.decreases-loop-at
decreases-loop-at l = l.at
