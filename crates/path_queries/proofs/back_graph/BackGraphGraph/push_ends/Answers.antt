use Rattle.std.proofs.Common.{◌++◌, ◌∙◌, List, map, append-nil, ap, sym, subst}
use Rattle.std.proofs.lemmas.Result.{on_ok_weaker}
use Rattle.mesh_types.specs.declared.links.Link.{Link}
use Rattle.mesh_types.specs.declared.links.PolyRef.{PolyRef}
use Rattle.graph_search.specs.declared.graph.Vertex.{Vertex}
use Rattle.graph_search.specs.Walks.{ends_of}
use Rattle.corridor_search.specs.MeshGraphs.{IsThere, end_of, links_from, polygon_of}
use Rattle.corridor_search.specs.Estimates.{extent_at}
use Rattle.corridor_search.proofs.Vertices.{contains-there}
use Rattle.path_queries.specs.BackGraphs.{arc_back}
use Rattle.path_queries.specs.Filters.{is_open, with_costs}
use Rattle.path_queries.proofs.BackLinks.{ends-back, links-all, links-none}
use Rattle.path_queries.proofs.back_graph.BackGraphGraph.push_ends.Goals as goal

pub may_be_entered-requires-clause-sound : goal.may_be_entered-requires-clause-sound
may_be_entered-requires-clause-sound c = c.requires.sound.sound

pub may_be_entered-requires-clause-there : goal.may_be_entered-requires-clause-there
may_be_entered-requires-clause-there c =
    subst (IsThere c.args.self.now.mesh.now) (sym c.polygon_at-at.ensures)
    (contains-there c.args.self.now.mesh.now c.args.from c.requires.there)

pub returns-then-may_be_entered : goal.returns-then-may_be_entered
returns-then-may_be_entered c =
    let g = c.args.self.now in
    let mesh = g.mesh.now in
    let old = c.args.ends.now.items in
    let on = ap (λ (p : PolyRef). is_open g.areas (extent_at mesh p).area) (sym c.polygon_at-at.ensures) ∙ sym c.may_be_entered.ensures
    ∙ c.if-may_be_entered.true in
    on_ok_weaker c.push_link_ends.result
    (λ next. next ∙ ap (λ (p : PolyRef). old ++ map end_of (links_from mesh p)) c.polygon_at-at.ensures
    ∙ ap (λ (vs : List Vertex). old ++ vs) (ends-back mesh g.areas g.costs.now (links_from mesh (polygon_of c.args.from)))
    ∙ ap (λ (links : List Link). old ++ ends_of (map (arc_back (with_costs g.costs.now mesh)) links)) (sym (links-all mesh g.areas c.args.from on)))
    c.push_link_ends.ensures

pub returns-else-may_be_entered : goal.returns-else-may_be_entered
returns-else-may_be_entered c =
    let g = c.args.self.now in
    let mesh = g.mesh.now in
    let off = ap (λ (p : PolyRef). is_open g.areas (extent_at mesh p).area) (sym c.polygon_at-at.ensures) ∙ sym c.may_be_entered.ensures
    ∙ c.if-may_be_entered.false in
    sym (append-nil c.args.ends.now.items)
    ∙ ap (λ (links : List Link). c.args.ends.now.items ++ ends_of (map (arc_back (with_costs g.costs.now mesh)) links))
    (sym (links-none mesh g.areas c.args.from off))
