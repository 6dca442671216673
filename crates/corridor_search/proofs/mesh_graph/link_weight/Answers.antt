use Rattle.std.proofs.Common.{◌*◌, max, ap, ◌∙◌}
use Rattle.std.specs.Prelude.{slice_index}
use Rattle.nav_base.specs.declared.point.Point.{Point}
use Rattle.nav_base.specs.Point.{from_to}
use Rattle.nav_base.specs.Deviation.{square_of}
use Rattle.nav_base.specs.Root.{ceil_sqrt_of}
use Rattle.corridor_search.specs.MeshGraphs.{polygon_of}
use Rattle.corridor_search.specs.Estimates.{middle_of, extent_at}
use Rattle.corridor_search.proofs.Vertices.{contains-there}
use Rattle.corridor_search.proofs.Searchable.{step-enters}
use Rattle.corridor_search.proofs.Extents.{extent-rules, weight-by-extents}
use Rattle.corridor_search.proofs.mesh_graph.link_weight.Goals as goal

pub middle-requires : goal.middle-requires
middle-requires c =
    (extent-rules c.args.mesh.now (polygon_of c.args.step.from) c.extent_at-left.result c.requires.sound
    (contains-there c.args.mesh.now c.args.step.from c.requires.there) (c.extent_at-left.ensures ∙ ap (extent_at c.args.mesh.now) c.polygon_at.ensures)).box

pub weight-requires-clause-to : goal.weight-requires-clause-to
weight-requires-clause-to c =
    (extent-rules c.args.mesh.now (polygon_of c.args.to) c.extent_at-entered.result c.requires.sound
    (step-enters c.args.mesh.now c.args.step c.args.to c.requires.sound c.requires.place c.requires.end) (c.extent_at-entered.ensures ∙ ap (extent_at c.args.mesh.now) c.polygon_at-2.ensures)).box

pub weight-requires-clause-area : goal.weight-requires-clause-area
weight-requires-clause-area c =
    (extent-rules c.args.mesh.now (polygon_of c.args.to) c.extent_at-entered.result c.requires.sound
    (step-enters c.args.mesh.now c.args.step c.args.to c.requires.sound c.requires.place c.requires.end) (c.extent_at-entered.ensures ∙ ap (extent_at c.args.mesh.now) c.polygon_at-2.ensures)).area

pub returns : goal.returns
returns c =
    let mesh = c.args.mesh.now in
    c.weight.ensures
    ∙ ap (λ (p : Point). max 1 (ceil_sqrt_of (square_of (from_to p (middle_of c.extent_at-entered.result)))) * slice_index mesh.setting.costs c.extent_at-entered.result.area) c.middle.ensures.value
    ∙ weight-by-extents mesh c.args.step c.args.to c.extent_at-left.result c.extent_at-entered.result c.requires.sound
    (contains-there mesh c.args.step.from c.requires.there) c.requires.place c.requires.end (c.extent_at-left.ensures ∙ ap (extent_at c.args.mesh.now) c.polygon_at.ensures) (c.extent_at-entered.ensures ∙ ap (extent_at c.args.mesh.now) c.polygon_at-2.ensures)
