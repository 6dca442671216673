use Rattle.std.proofs.Common.{◌*◌, ap, sym, subst, ◌∙◌}
use Rattle.nav_base.specs.declared.point.Point.{Point}
use Rattle.nav_base.specs.Distance.{distance_of}
use Rattle.corridor_search.specs.MeshGraphs.{IsThere, polygon_of}
use Rattle.corridor_search.specs.Estimates.{extent_at}
use Rattle.corridor_search.proofs.Vertices.{contains-there}
use Rattle.corridor_search.proofs.Extents.{extent-rules, estimate-by}
use Rattle.path_queries.proofs.filtered_graph.FilteredGraphGraph.estimate.Goals as goal

pub extent_there-requires : goal.extent_there-requires
extent_there-requires c =
    let mesh = c.args.self.now.mesh.now in
    record { there = subst (IsThere mesh) (sym c.polygon_at.ensures) (contains-there mesh c.args.from c.requires.there) }

pub middle-middle-requires : goal.middle-middle-requires
middle-middle-requires c =
    let mesh = c.args.self.now.mesh.now in
    (extent-rules mesh (polygon_of c.args.from) c.extent_there.result c.requires.sound.sound (contains-there mesh c.args.from c.requires.there)
    (c.extent_there.ensures ∙ ap (extent_at mesh) c.polygon_at.ensures)).box

pub returns : goal.returns
returns c =
    let mesh = c.args.self.now.mesh.now in
    let aim = c.args.self.now.aim in
    let middle =
    c.from.ensures ∙ c.distance.ensures ∙ ap (λ (p : Point). distance_of p aim) c.middle-middle.ensures.value
    ∙ estimate-by mesh aim c.args.from c.extent_there.result (contains-there mesh c.args.from c.requires.there)
    (c.extent_there.ensures ∙ ap (extent_at mesh) c.polygon_at.ensures) in
    let least = c.from-2.ensures in
    λ i. (middle i) * (least i)
