use Rattle.std.proofs.Common.{◌≡◌}
use Rattle.graph_search.specs.Visited.{visit_at}
use Rattle.graph_search.specs.Searching.{IsFollowing}
use Rattle.graph_search.proofs.search.Search.relax.Given as goal

-- the arcs so far were followed
abbrev pub invariant-loop-place : goal.invariant-loop-place
invariant-loop-place g l = record {
  following : IsFollowing (g.G.Graph.vertices l.graph) (g.G.Graph.arcs l.graph) (g.G.Graph.estimates l.graph) (g.G.Graph.heaviest l.graph) l.turn.vertex l.fn.self.closed
      (visit_at l.fn.self.visits) l.fn.self.waiting.entries (visit_at l.self.visits) l.self.waiting.entries l.place l.place;
  closed : l.self.closed ≡ l.fn.self.closed;
  last : l.self.waiting.last ≡ l.fn.self.waiting.last;
}
