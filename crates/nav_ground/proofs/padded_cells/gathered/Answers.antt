use Rattle.std.proofs.Common.{◌++◌, ◌∙◌}
use Rattle.nav_ground.proofs.CellRunLaws.{runs_more}
use Rattle.nav_ground.proofs.padded_cells.gathered.Goals as goal

pub loop-run-preserved : goal.loop-run-preserved
loop-run-preserved c =
    c.in_ok-extend_from_slice.ensures.items
    ∙ (λ i. c.loop-run.invariant i ++ c.run_cells.ensures i)
    ∙ runs_more c.args.cells.now c.args.runs.now c.loop-run.run-index _ c.loop-run-test.true
