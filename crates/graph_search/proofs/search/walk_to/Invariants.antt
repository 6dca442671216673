use Rattle.std.proofs.Common.{◌+◌, ◌≤◌, List, length}
use Rattle.graph_search.specs.declared.graph.Vertex.{Vertex}
use Rattle.graph_search.specs.declared.graph.Arc.{Arc}
use Rattle.graph_search.specs.Visited.{visit_at, IsClosed}
use Rattle.graph_search.specs.Searching.{IsTree}
use Rattle.graph_search.proofs.WayBack.{IsWayTo}
use Rattle.graph_search.proofs.search.walk_to.Given as goal

-- the steps so far lead from a closed vertex to the goal, and the rank has fallen at each
abbrev pub invariant-loop-start : goal.invariant-loop-start
invariant-loop-start l = record {
  closed : IsClosed (visit_at l.visits l.vertex);
  way : (arcs : Vertex → List Arc) → IsTree arcs l.start (visit_at l.visits) → IsWayTo arcs (visit_at l.visits) l.vertex l.to l.steps.items;
  short : length l.steps.items + (visit_at l.visits l.vertex).rank ≤ (visit_at l.visits l.to).rank;
}

abbrev pub decreases-loop-start : goal.decreases-loop-start
decreases-loop-start l = (visit_at l.visits l.vertex).rank
