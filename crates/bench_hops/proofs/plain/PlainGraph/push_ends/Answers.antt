use Rattle.std.proofs.Common.{◌++◌, List, map, ap, ◌∙◌}
use Rattle.std.proofs.lemmas.Result.{on_ok_weaker}
use Rattle.mesh_types.specs.declared.links.PolyRef.{PolyRef}
use Rattle.graph_search.specs.declared.graph.Vertex.{Vertex}
use Rattle.corridor_search.specs.MeshGraphs.{links_from, end_of, polygon_of}
use Rattle.corridor_search.proofs.Searchable.{ends-are}
use Rattle.bench_hops.proofs.plain.PlainGraph.push_ends.Goals as goal

pub returns : goal.returns
returns c =
    let mesh = c.args.self.now.mesh.now in
    let old = c.args.ends.now.items in
    on_ok_weaker c.push_link_ends.result
    (λ next. next ∙ ap (λ (p : PolyRef). old ++ map end_of (links_from mesh p)) c.polygon_at.ensures
    ∙ ap (λ (vs : List Vertex). old ++ vs) (ends-are mesh (polygon_of c.args.from))) c.push_link_ends.ensures
