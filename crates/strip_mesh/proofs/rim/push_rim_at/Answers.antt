use Rattle.std.proofs.Common.{◌∙◌}
use Rattle.mesh_types.specs.StripRim.{rim_edge}
use Rattle.mesh_types.specs.StripLinks.{outside_of}
use Rattle.strip_mesh.specs.Indexed.{run_in}
use Rattle.strip_mesh.proofs.SideEnds.{label_here, no_entry, one_entry, entry_pushed, no_entry_pushed}
use Rattle.strip_mesh.proofs.rim.push_rim_at.Goals as goal

pub returns-in_ok-push : goal.returns-in_ok-push
returns-in_ok-push c =
    let strips = c.args.of.strips.now in
    let own = run_in strips c.args.of.strip in
    let window = c.args.of.window.now in
    let here = label_here window (outside_of c.args.edge) strips.free.cells c.run-run.result.now own c.args.place c.label_at.result c.run-run.ensures.cells
    c.requires.alone.there c.label_at.ensures in
    entry_pushed (rim_edge c.args.of.strip c.args.edge own) c.args.rim.now.items c.push.new.self.items c.in_ok-rim_edge.field-0 _ _ c.in_ok-push.ensures.items
    c.in_ok-rim_edge.ensures (one_entry window own (outside_of c.args.edge) c.args.place c.in-Some.label c.requires.alone (here ∙ c.in-Some.is))

pub returns-in_default : goal.returns-in_default
returns-in_default c =
    let strips = c.args.of.strips.now in
    let own = run_in strips c.args.of.strip in
    let window = c.args.of.window.now in
    let here = label_here window (outside_of c.args.edge) strips.free.cells c.run-run.result.now own c.args.place c.label_at.result c.run-run.ensures.cells
    c.requires.alone.there c.label_at.ensures in
    no_entry_pushed (rim_edge c.args.of.strip c.args.edge own) c.args.rim.now.items _
    (no_entry window own (outside_of c.args.edge) c.args.place c.requires.alone (here ∙ c.in_default.is))
