use Rattle.std.proofs.Common.{◌≡◌, ◌++◌, List, map, append_assoc, ap, sym, ◌∙◌}
use Rattle.std.proofs.lemmas.List.{map-append}
use Rattle.std.proofs.lemmas.Result.{on_ok_weaker}
use Rattle.graph_search.specs.declared.graph.Vertex.{Vertex}
use Rattle.corridor_search.specs.MeshGraphs.{inner_links, outer_links, end_of, vertex_of}
use Rattle.corridor_search.proofs.Searchable.{ends-over}
use Rattle.corridor_search.proofs.mesh_graph.push_link_ends.Goals as goal

pub returns : goal.returns
returns c =
    let mesh = c.args.mesh.now in
    let at = c.args.at in
    let old = c.args.ends.now.items in
    let inside = ap (map vertex_of) c.entered_inside.ensures ∙ ends-over (inner_links mesh at) in
    let outside = ap (map vertex_of) c.entered_outside.ensures ∙ ends-over (outer_links mesh at) in
    let first : c.push_vertices.new.ends.items ≡ old ++ map end_of (inner_links mesh at) =
    c.in_ok-push_vertices.ensures ∙ ap (λ (vs : List Vertex). old ++ vs) inside in
    on_ok_weaker c.push_vertices-2.result
    (λ next. next ∙ ap (λ (vs : List Vertex). vs ++ map vertex_of c.entered_outside.result.now) first
    ∙ ap (λ (vs : List Vertex). (old ++ map end_of (inner_links mesh at)) ++ vs) outside
    ∙ append_assoc old (map end_of (inner_links mesh at)) (map end_of (outer_links mesh at))
    ∙ ap (λ (vs : List Vertex). old ++ vs) (sym (map-append end_of (inner_links mesh at) (outer_links mesh at)))) c.push_vertices-2.ensures
