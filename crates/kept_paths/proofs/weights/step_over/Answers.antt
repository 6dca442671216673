use Rattle.std.proofs.Common.{◌*◌, max, ap, sym, ◌∙◌}
use Rattle.std.specs.Prelude.{slice_index}
use Rattle.nav_base.specs.declared.point.Point.{Point}
use Rattle.nav_base.specs.Distance.{distance_of}
use Rattle.mesh_types.specs.declared.extent.Extent.{Extent}
use Rattle.mesh_types.specs.Corridors.{centre_of}
use Rattle.mesh_types.proofs.MeshLinks.{leads}
use Rattle.corridor_search.specs.Estimates.{middle_of}
use Rattle.corridor_search.proofs.Extents.{extent-is, extent-rules}
use Rattle.corridor_search.proofs.LinkWeights.{weight-is}
use Rattle.path_queries.specs.Filters.{with_costs}
use Rattle.kept_paths.proofs.weights.step_over.Goals as goal

pub middle-requires : goal.middle-requires
middle-requires c =
    let lead = leads c.args.mesh.now c.args.link.now c.requires.sound c.requires.link in
    (extent-rules c.args.mesh.now c.args.link.now.from c.args.left c.requires.sound (record { polygon = lead.leaves; is = lead.is_left })
    c.requires.left).box

pub step_cost-requires-clause-to : goal.step_cost-requires-clause-to
step_cost-requires-clause-to c =
    let lead = leads c.args.mesh.now c.args.link.now c.requires.sound c.requires.link in
    (extent-rules c.args.mesh.now c.args.link.now.to c.args.entered c.requires.sound (record { polygon = lead.enters; is = lead.is_entered })
    c.requires.entered).box

pub step_cost-requires-clause-area : goal.step_cost-requires-clause-area
step_cost-requires-clause-area c =
    let lead = leads c.args.mesh.now c.args.link.now c.requires.sound c.requires.link in
    (extent-rules c.args.mesh.now c.args.link.now.to c.args.entered c.requires.sound (record { polygon = lead.enters; is = lead.is_entered })
    c.requires.entered).area

pub returns : goal.returns
returns c =
    let mesh = c.args.mesh.now in
    let link = c.args.link.now in
    let lead = leads mesh link c.requires.sound c.requires.link in
    let costs = c.args.costs.now in
    c.step_cost.ensures
    ∙ ap (λ (p : Point). max 1 (distance_of p (middle_of c.args.entered)) * slice_index costs c.args.entered.area)
    c.middle.ensures.value
    ∙ ap (λ (e : Extent). max 1 (distance_of (middle_of e) (middle_of c.args.entered)) * slice_index costs c.args.entered.area)
    (c.requires.left ∙ extent-is mesh link.from lead.leaves lead.is_left)
    ∙ ap (λ (e : Extent). max 1 (distance_of (centre_of lead.leaves.corners) (middle_of e)) * slice_index costs e.area)
    (c.requires.entered ∙ extent-is mesh link.to lead.enters lead.is_entered)
    ∙ sym (weight-is (with_costs costs mesh) link lead.leaves lead.enters lead.is_left lead.is_entered)
