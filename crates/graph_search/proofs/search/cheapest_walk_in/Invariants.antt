use Rattle.std.proofs.Common.{◌≡◌}
use Rattle.graph_search.specs.Visited.{visit_at}
use Rattle.graph_search.proofs.Turns.{IsBetween, work}
use Rattle.graph_search.proofs.search.cheapest_walk_in.Given as goal

-- what holds between two turns, and the goal is not closed
abbrev pub invariant-loop-search : goal.invariant-loop-search
invariant-loop-search g l = record {
  between : IsBetween (g.G.Graph.vertices l.graph) (g.G.Graph.arcs l.graph) (g.G.Graph.estimates l.graph) (g.G.Graph.heaviest l.graph) l.from
      (visit_at l.search.visits) l.search.waiting.entries l.search.closed;
  goal : (visit_at l.search.visits l.to).rank ≡ 0;
}

-- the entries, and the arcs of vertices that are not closed
abbrev pub decreases-loop-search : goal.decreases-loop-search
decreases-loop-search g l = work (g.G.Graph.vertices l.graph) (g.G.Graph.arcs l.graph) (visit_at l.search.visits) l.search.waiting.entries
