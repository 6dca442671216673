use Rattle.std.proofs.Common.{◌∙◌, ap}
use Rattle.nav_ground.specs.declared.cell.Cell.{Cell}
use Rattle.nav_ground.specs.Directions.{number}
use Rattle.mesh_types.specs.StripPolygons.{some_cell}
use Rattle.mesh_types.specs.Contours.{code_beyond}
use Rattle.contour_walk.proofs.CodeLaws.{cell_by_index, no_cell_wall}
use Rattle.contour_walk.proofs.codes.code.Goals as goal

pub returns-then-index-cells : goal.returns-then-index-cells
returns-then-index-cells c = λ at is.
    c.code_of.ensures some_cell
    ∙ ap (λ (cell : Cell). code_beyond c.args.rim.table.now.window c.args.rim.cells.now c.args.rim.regions.now (number c.args.dir) cell)
    (cell_by_index c.args.rim.cells.now at c.args.index some_cell is c.if-index-cells.true)

pub returns-else-index-cells : goal.returns-else-index-cells
returns-else-index-cells c = λ at is.
    no_cell_wall c.args.rim.table.now.window c.args.rim.cells.now c.args.rim.regions.now (number c.args.dir) at c.args.index is c.if-index-cells.false
