use Rattle.std.proofs.Common.{◌*◌, max, ap, sym, subst, ◌∙◌}
use Rattle.std.specs.Prelude.{slice_index}
use Rattle.nav_base.specs.declared.point.Point.{Point}
use Rattle.nav_base.specs.Distance.{distance_of}
use Rattle.corridor_search.specs.MeshGraphs.{IsThere, polygon_of}
use Rattle.corridor_search.specs.Estimates.{extent_at, middle_of}
use Rattle.corridor_search.proofs.Extents.{extent-rules}
use Rattle.corridor_search.proofs.Vertices.{contains-there}
use Rattle.path_queries.proofs.FilteredWeights.{entered-there, weight-by}
use Rattle.path_queries.proofs.filtered_graph.FilteredGraphGraph.weight.Goals as goal

pub step_extents-requires-clause-left : goal.step_extents-requires-clause-left
step_extents-requires-clause-left c =
    subst (IsThere c.args.self.now.mesh.now) (sym c.polygon_at.ensures)
    (contains-there c.args.self.now.mesh.now c.args.step.from c.requires.there)

pub step_extents-requires-clause-entered : goal.step_extents-requires-clause-entered
step_extents-requires-clause-entered c =
    let g = c.args.self.now in
    subst (IsThere g.mesh.now) (sym c.polygon_at-2.ensures)
    (entered-there g.mesh.now g.areas g.costs.now g.start c.args.step c.args.to c.requires.sound.sound c.requires.place c.requires.end)

pub middle-requires : goal.middle-requires
middle-requires c =
    let mesh = c.args.self.now.mesh.now in
    (extent-rules mesh (polygon_of c.args.step.from) c.step_extents.result.left c.requires.sound.sound
    (contains-there mesh c.args.step.from c.requires.there)
    (c.step_extents.ensures.left ∙ ap (extent_at mesh) c.polygon_at.ensures)).box

pub step_cost-requires-clause-to : goal.step_cost-requires-clause-to
step_cost-requires-clause-to c =
    let g = c.args.self.now in
    (extent-rules g.mesh.now (polygon_of c.args.to) c.step_extents.result.entered c.requires.sound.sound
    (entered-there g.mesh.now g.areas g.costs.now g.start c.args.step c.args.to c.requires.sound.sound c.requires.place c.requires.end)
    (c.step_extents.ensures.entered ∙ ap (extent_at g.mesh.now) c.polygon_at-2.ensures)).box

pub step_cost-requires-clause-area : goal.step_cost-requires-clause-area
step_cost-requires-clause-area c =
    let g = c.args.self.now in
    (extent-rules g.mesh.now (polygon_of c.args.to) c.step_extents.result.entered c.requires.sound.sound
    (entered-there g.mesh.now g.areas g.costs.now g.start c.args.step c.args.to c.requires.sound.sound c.requires.place c.requires.end)
    (c.step_extents.ensures.entered ∙ ap (extent_at g.mesh.now) c.polygon_at-2.ensures)).area

pub returns : goal.returns
returns c =
    let g = c.args.self.now in
    c.step_cost.ensures
    ∙ ap (λ (p : Point). max 1 (distance_of p (middle_of c.step_extents.result.entered)) * slice_index g.costs.now
    c.step_extents.result.entered.area) c.middle.ensures.value
    ∙ weight-by g.mesh.now g.areas g.costs.now g.start c.args.step c.args.to c.requires.sound.sound c.requires.place c.requires.end
    c.step_extents.result.left
    c.step_extents.result.entered (contains-there g.mesh.now c.args.step.from c.requires.there)
    (c.step_extents.ensures.left ∙ ap (extent_at g.mesh.now) c.polygon_at.ensures)
    (c.step_extents.ensures.entered ∙ ap (extent_at g.mesh.now) c.polygon_at-2.ensures)
