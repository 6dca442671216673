use Rattle.std.proofs.Common.{◌∙◌, sym, ap, arith}
use Rattle.nav_ground.proofs.SmallCellLaws.{place_read}
use Rattle.cell_table.specs.Columns.{is_at}
use Rattle.cell_table.proofs.Places.{no_cell, found_there, found_nowhere}
use Rattle.cell_table.proofs.table.index_beside.Goals as goal
use Rattle.cell_table.proofs.table.index_beside.Goals.{else-least-cells-via-then-least-cells+else-is_at, else-least-cells-via-else-least-cells}

pub returns-then-is_at : goal.returns-then-is_at
returns-then-is_at c =
    let cells = c.args.cells.now in
    let least = c.cells_before-least.result in
    let read = place_read cells least c.index-cells-least.result c.at.result c.if-least-cells.true c.index-cells-least.is c.at.ensures no_cell in
    found_there cells c.requires c.args.column c.args.level least no_cell c.if-least-cells.true
    (ap (is_at c.args.column c.args.level) (sym read) ∙ sym c.is_at.ensures ∙ c.if-is_at.true)

pub returns-else-least-cells : goal.returns-else-least-cells
returns-else-least-cells c =
    let cells = c.args.cells.now in
    let least = c.cells_before-least.result in
    found_nowhere cells c.requires c.args.column c.args.level least
    c.cells_before-least.ensures.most c.cells_before-least.ensures.before c.cells_before-least.ensures.after
    (λ d there. elim c.else-least-cells.branch [
      | else-least-cells-via-then-least-cells+else-is_at w ↦
          ap (is_at c.args.column c.args.level) (sym (place_read cells least w.index-cells-least.result w.at.result there w.index-cells-least.is w.at.ensures d))
          ∙ sym w.is_at.ensures ∙ w.if-is_at.false
      | else-least-cells-via-else-least-cells w ↦ absurd (omega (arith, there, w.if-least-cells.false))
    ])
