use Rattle.std.proofs.Common.{◌++◌, ◌∙◌, List, map, ap}
use Rattle.std.proofs.lemmas.List.{take_all}
use Rattle.mesh_types.specs.declared.links.PolyRef.{PolyRef}
use Rattle.corridor_search.specs.MeshGraphs.{vertex_of}
use Rattle.corridor_search.proofs.mesh_graph.push_vertices.Goals as goal

pub returns : goal.returns
returns c =
    c.loop-at.invariant
    ∙ ap (λ (polygons : List PolyRef). c.args.ends.now.items ++ map vertex_of polygons) (take_all c.loop-at.at-index c.args.polygons.now c.loop-at-test.false)
