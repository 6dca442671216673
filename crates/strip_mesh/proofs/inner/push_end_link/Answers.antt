use Rattle.std.proofs.Common.{◌∙◌}
use Rattle.nav_ground.specs.Directions.{number}
use Rattle.mesh_types.specs.StripLinks.{outside_of}
use Rattle.strip_mesh.specs.Indexed.{runs_in, run_in}
use Rattle.strip_mesh.proofs.EndLaws.{end_link, no_end_link, found_at, one_pushed, none_pushed}
use Rattle.strip_mesh.proofs.inner.push_end_link.Goals as goal

pub returns-in_ok-push : goal.returns-in_ok-push
returns-in_ok-push c =
    let strips = c.args.one.strips.now in
    let s = c.args.one.strip in
    let found = found_at strips.free.cells c.run-run.result.now (run_in strips s) (runs_in strips) s (outside_of c.args.edge) (number c.outside_of-dir.result) c.args.place c.beyond.result
    c.run-run.ensures.cells c.requires.place c.outside_of-dir.ensures c.beyond.ensures in
    one_pushed c.args.links.now.items c.push.new.self.items c.link.result _ _ c.in_ok-push.ensures.items c.link.ensures
    (end_link strips.free.tile (runs_in strips) s c.args.edge c.args.place c.in-Some.label c.requires.place c.requires.alone (found ∙ c.in-Some.is))

pub returns-in_default : goal.returns-in_default
returns-in_default c =
    let strips = c.args.one.strips.now in
    let s = c.args.one.strip in
    let found = found_at strips.free.cells c.run-run.result.now (run_in strips s) (runs_in strips) s (outside_of c.args.edge) (number c.outside_of-dir.result) c.args.place c.beyond.result
    c.run-run.ensures.cells c.requires.place c.outside_of-dir.ensures c.beyond.ensures in
    none_pushed c.args.links.now.items _
    (no_end_link strips.free.tile (runs_in strips) s c.args.edge c.args.place c.requires.place c.requires.alone (found ∙ c.in_default.is))
