use Rattle.std.proofs.Common.{◌∙◌, sym}
use Rattle.std.specs.Prelude.{None}
use Rattle.std.proofs.lemmas.List.{get_or-map}
use Rattle.nav_ground.specs.Directions.{number}
use Rattle.mesh_types.specs.StripLinks.{strip_beyond, outside_of}
use Rattle.mesh_types.specs.StripPolygons.{some_cell}
use Rattle.strip_mesh.specs.Indexed.{runs_in, run_in}
use Rattle.strip_mesh.proofs.EndLaws.{found_at}
use Rattle.strip_mesh.proofs.inner.beyond_at.Goals as goal

pub returns : goal.returns
returns c =
    let strips = c.args.one.strips.now in
    let s = c.args.one.strip in
    sym (found_at strips.free.cells c.run-run.result.now (run_in strips s) (runs_in strips) s (outside_of c.args.edge) (number c.outside_of.result) c.args.place c.beyond.result
    c.run-run.ensures.cells c.requires.place c.outside_of.ensures c.beyond.ensures)
    ∙ sym (get_or-map (strip_beyond (runs_in strips) s (outside_of c.args.edge)) (run_in strips s) c.args.place some_cell None c.requires.place)
