use Rattle.std.proofs.Common.{◌∙◌, sym, ap, arith}
use Rattle.nav_ground.proofs.SmallCellLaws.{place_read}
use Rattle.cell_table.specs.Columns.{is_before}
use Rattle.cell_table.proofs.table.pass.Goals as goal

pub returns-after-loop-passed-clause-next : goal.returns-after-loop-passed-clause-next
returns-after-loop-passed-clause-next c = λ d there. absurd (omega (arith, there, c.loop-passed-test.false))

pub returns-else-is_before-clause-next : goal.returns-else-is_before-clause-next
returns-else-is_before-clause-next c = λ d there.
    let read = place_read c.args.cells.now c.loop-passed.passed c.index-cells-passed.result c.at.result there c.index-cells-passed.is c.at.ensures d in
    ap (is_before c.args.column c.args.level) (sym read) ∙ sym c.is_before.ensures ∙ c.if-is_before.false
