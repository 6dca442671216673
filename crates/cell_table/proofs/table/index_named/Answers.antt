use Rattle.std.proofs.Common.{◌∙◌, ap, sym}
use Rattle.nav_ground.specs.Directions.{number}
use Rattle.nav_ground.proofs.DirectionLaws.{number-below}
use Rattle.cell_table.specs.Columns.{column_toward}
use Rattle.cell_table.specs.Table.{index_of}
use Rattle.cell_table.proofs.Places.{named_index, named_none}
use Rattle.cell_table.proofs.table.index_named.Goals as goal

pub returns-in-Some : goal.returns-in-Some
returns-in-Some c =
    c.index_of.ensures
    ∙ ap (λ column. index_of c.args.cells.now column c.in-Some.level) (c.column_toward.ensures ∙ ap (column_toward (number c.args.dir)) c.requires.at)
    ∙ named_index (number c.args.dir) c.in-Some.level c.args.cell.now c.args.cells.now (number-below c.args.dir)
    (record { x = c.requires.cell.x; z = c.requires.cell.z }) c.requires.cells (sym c.next.ensures ∙ c.in-Some.is)

pub returns-in-None : goal.returns-in-None
returns-in-None c = named_none (number c.args.dir) c.args.cell.now c.args.cells.now (sym c.next.ensures ∙ c.in-None.is)
