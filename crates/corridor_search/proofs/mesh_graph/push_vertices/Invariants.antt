use Rattle.std.proofs.Common.{◌≡◌, ◌++◌, map, take}
use Rattle.corridor_search.specs.MeshGraphs.{vertex_of}
use Rattle.corridor_search.proofs.mesh_graph.push_vertices.Given as goal

-- the vertices of the polygons so far
abbrev pub invariant-loop-at : goal.invariant-loop-at
invariant-loop-at l = l.ends.items ≡ l.fn.ends.items ++ map vertex_of (take l.at-index l.polygons)
