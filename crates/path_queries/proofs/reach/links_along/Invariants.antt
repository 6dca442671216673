use Rattle.std.proofs.Common.{◌≡◌, map, take}
use Rattle.corridor_search.specs.MeshGraphs.{link_of}
use Rattle.path_queries.proofs.reach.links_along.Given as goal

-- the links of the steps so far
abbrev pub invariant-loop-step : goal.invariant-loop-step
invariant-loop-step l = l.links.items ≡ map (link_of l.mesh) (take l.step-index l.steps)
