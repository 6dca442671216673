use Rattle.std.proofs.Common.{◌*◌, length}
use Rattle.graph_search.specs.Visited.{visit_at}
use Rattle.graph_search.specs.Exploring.{IsListing}
use Rattle.graph_search.proofs.Turns.{IsBetween, work}
use Rattle.graph_search.proofs.exploring.search_within.Given as goal

-- what holds between two turns, and the list has what was closed
abbrev pub invariant-loop-reached : goal.invariant-loop-reached
invariant-loop-reached g l = record {
  between : IsBetween (g.G.Graph.vertices l.graph) (g.G.Graph.arcs l.graph) (g.G.Graph.estimates l.graph) (g.G.Graph.heaviest l.graph) l.fn.from
      (visit_at l.search.visits) l.search.waiting.entries l.search.closed;
  listing : IsListing (g.G.Graph.arcs l.graph) (g.G.Graph.estimates l.graph) l.fn.from l.stops l.limits
      (length (g.G.Graph.vertices l.graph) * g.G.Graph.heaviest l.graph) (visit_at l.search.visits) l.reached.items l.search.closed;
}

-- the entries, and the arcs of vertices that are not closed
abbrev pub decreases-loop-reached : goal.decreases-loop-reached
decreases-loop-reached g l = work (g.G.Graph.vertices l.graph) (g.G.Graph.arcs l.graph) (visit_at l.search.visits) l.search.waiting.entries
