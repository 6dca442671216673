use Rattle.std.proofs.Common.{◌∙◌, ap, pos, sym}
use Rattle.nav_ground.specs.declared.cell.Cell.{Cell}
use Rattle.nav_ground.specs.declared.cell.CellRef.{CellRef}
use Rattle.strip_mesh.specs.Indexed.{run_in}
use Rattle.strip_mesh.proofs.RowLaws.{row_is}
use Rattle.strip_mesh.proofs.SideEnds.{first_alone}
use Rattle.strip_mesh.proofs.rim.first_at_side.Goals as goal

pub returns-then-is_first_column : goal.returns-then-is_first_column
returns-then-is_first_column c =
    first_alone c.args.of.window.now (run_in c.args.of.strips.now c.args.of.strip)
    (row_is c.args.of.strips.now.free.cells c.requires.rules.cut c.args.of.strip c.requires.there)
    (ap (λ (cell : Cell). pos cell.at.x) (sym c.first.ensures.value) ∙ ap (λ (at : CellRef). pos at.x) (sym c.at.ensures)
    ∙ c.is_first_column.ensures.0 c.if-is_first_column.true)
