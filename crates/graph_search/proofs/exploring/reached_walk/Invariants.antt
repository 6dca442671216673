use Rattle.std.proofs.Common.{◌+◌, ◌≤◌, List, length}
use Rattle.graph_search.specs.declared.graph.Vertex.{Vertex}
use Rattle.graph_search.specs.declared.graph.Arc.{Arc}
use Rattle.graph_search.specs.Explored.{AreReachedFrom}
use Rattle.graph_search.proofs.ReachedWalks.{IsWayIn}
use Rattle.graph_search.proofs.exploring.reached_walk.Given as goal

-- the steps so far lead from a place to the last, and the place has fallen at each
abbrev pub invariant-loop-at : goal.invariant-loop-at
invariant-loop-at l = record {
  way : (arcs : Vertex → List Arc) (from : Vertex) → AreReachedFrom arcs from l.reached → IsWayIn arcs l.reached l.at l.place l.steps.items;
  short : length l.steps.items + l.at ≤ l.place;
}

abbrev pub decreases-loop-at : goal.decreases-loop-at
decreases-loop-at l = l.at
