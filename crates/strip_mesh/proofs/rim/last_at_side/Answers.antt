use Rattle.std.proofs.Common.{◌∙◌, ap, pos, sym, subst, arith}
use Rattle.nav_ground.specs.declared.cell.Cell.{Cell}
use Rattle.nav_ground.specs.declared.cell.CellRef.{CellRef}
use Rattle.strip_mesh.specs.Indexed.{run_in}
use Rattle.strip_mesh.specs.Strips.{IsAloneAtSide}
use Rattle.strip_mesh.proofs.Counts.{run_length}
use Rattle.strip_mesh.proofs.RowLaws.{row_is}
use Rattle.strip_mesh.proofs.SideEnds.{last_alone}
use Rattle.strip_mesh.proofs.rim.last_at_side.Goals as goal

pub returns-then-is_last_column : goal.returns-then-is_last_column
returns-then-is_last_column c =
    let cells = c.args.of.strips.now.free.cells in
    let own = run_in c.args.of.strips.now c.args.of.strip in
    subst (IsAloneAtSide c.args.of.window.now own 2)
    (omega (arith, run_length cells c.run-count.result.now own c.run-count.ensures.cells))
    (last_alone c.args.of.window.now own (row_is cells c.requires.rules.cut c.args.of.strip c.requires.there)
    (ap (λ (cell : Cell). pos cell.at.x) (sym c.last.ensures.value) ∙ ap (λ (at : CellRef). pos at.x) (sym c.at.ensures)
    ∙ c.is_last_column.ensures.0 c.if-is_last_column.true))
