use Rattle.nav_ground.proofs.CellRunLaws.{no_cell_passed}
use Rattle.nav_ground.proofs.padded_cells.passed.Goals as goal

pub returns-in-None-clause-passed : goal.returns-in-None-clause-passed
returns-in-None-clause-passed c = λ behind is.
    no_cell_passed c.args.cells.now c.args.runs.now c.loop-cell.here _ c.args.next.now c.loop-cell.cell-index c.cell-item.result behind c.loop-cell-test.true
    c.cell-item.is c.loop-cell.invariant.passed c.in-None.ensures.passed is
