use Rattle.std.proofs.Common.{◌++◌, ◌∙◌, List, map, append-nil, ap, sym, subst}
use Rattle.std.proofs.lemmas.Result.{on_ok_weaker}
use Rattle.mesh_types.specs.declared.links.Link.{Link}
use Rattle.mesh_types.specs.declared.links.PolyRef.{PolyRef}
use Rattle.graph_search.specs.declared.graph.Vertex.{Vertex}
use Rattle.graph_search.specs.Walks.{ends_of}
use Rattle.corridor_search.specs.MeshGraphs.{IsThere, arc_over, end_of, links_from, polygon_of}
use Rattle.corridor_search.proofs.Searchable.{ends-are}
use Rattle.corridor_search.proofs.Vertices.{contains-there}
use Rattle.path_queries.specs.Filters.{with_costs}
use Rattle.path_queries.specs.FilteredGraphs.{leads_on}
use Rattle.path_queries.proofs.FilteredLinks.{links-all, links-none}
use Rattle.path_queries.proofs.filtered_graph.FilteredGraphGraph.push_ends.Goals as goal

pub leads_on-requires-clause-sound : goal.leads_on-requires-clause-sound
leads_on-requires-clause-sound c = c.requires.sound.sound

pub leads_on-requires-clause-there : goal.leads_on-requires-clause-there
leads_on-requires-clause-there c =
    subst (IsThere c.args.self.now.mesh.now) (sym c.polygon_at-at.ensures)
    (contains-there c.args.self.now.mesh.now c.args.from c.requires.there)

pub returns-then-leads_on : goal.returns-then-leads_on
returns-then-leads_on c =
    let g = c.args.self.now in
    let mesh = g.mesh.now in
    let priced = with_costs g.costs.now mesh in
    let old = c.args.ends.now.items in
    let on = ap (leads_on mesh g.areas g.start) (sym c.polygon_at-at.ensures) ∙ sym c.leads_on.ensures ∙ c.if-leads_on.true in
    on_ok_weaker c.push_link_ends.result
    (λ next. next ∙ ap (λ (p : PolyRef). old ++ map end_of (links_from mesh p)) c.polygon_at-at.ensures
    ∙ ap (λ (vs : List Vertex). old ++ vs) (ends-are priced (polygon_of c.args.from))
    ∙ ap (λ (links : List Link). old ++ ends_of (map (arc_over priced) links)) (sym (links-all mesh g.areas g.start c.args.from on)))
    c.push_link_ends.ensures

pub returns-else-leads_on : goal.returns-else-leads_on
returns-else-leads_on c =
    let g = c.args.self.now in
    let mesh = g.mesh.now in
    let priced = with_costs g.costs.now mesh in
    let off = ap (leads_on mesh g.areas g.start) (sym c.polygon_at-at.ensures) ∙ sym c.leads_on.ensures ∙ c.if-leads_on.false in
    sym (append-nil c.args.ends.now.items)
    ∙ ap (λ (links : List Link). c.args.ends.now.items ++ ends_of (map (arc_over priced) links))
    (sym (links-none mesh g.areas g.start c.args.from off))
