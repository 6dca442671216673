use Rattle.std.proofs.Common.{◌∙◌, sym, ap}
use Rattle.nav_ground.proofs.SmallCellLaws.{place_read}
use Rattle.cell_table.specs.Columns.{is_at}
use Rattle.cell_table.proofs.Places.{no_cell, found_there}
use Rattle.cell_table.proofs.table.index_of.Goals as goal

pub returns-then-is_at : goal.returns-then-is_at
returns-then-is_at c =
    let cells = c.args.cells.now in
    let index = c.args.guess.now in
    let read = place_read cells index c.index-cells-index.result c.at.result c.if-index-cells.true c.index-cells-index.is c.at.ensures no_cell in
    found_there cells c.requires c.args.column c.args.level index no_cell c.if-index-cells.true
    (ap (is_at c.args.column c.args.level) (sym read) ∙ sym c.is_at.ensures ∙ c.if-is_at.true)
