use Rattle.std.proofs.Common.{◌∙◌}
use Rattle.nav_ground.specs.declared.cell.Cell.{Cell}
use Rattle.mesh_types.specs.Runs.{label_if}
use Rattle.mesh_types.specs.Crossings.{is_crossing}
use Rattle.mesh_types.specs.StripLinks.{outside_of}
use Rattle.strip_mesh.specs.Indexed.{run_in}
use Rattle.strip_mesh.proofs.Steps.{made_of_cells}
use Rattle.strip_mesh.proofs.rim.label_crossing.Goals as goal

pub returns : goal.returns
returns c =
    c.loop-at.invariant
    ∙ made_of_cells (λ (cell : Cell). label_if (is_crossing c.args.of.window.now (outside_of c.args.edge) cell)) c.args.of.strips.now.free.cells c.run-run.result.now
    (run_in c.args.of.strips.now c.args.of.strip) c.loop-at.at-index c.loop-at-test.false c.run-run.ensures.cells
