use Rattle.layer_cut.proofs.FieldCells.{cells_in_field_of}
use Rattle.layer_cut.proofs.shared_cells.layers_from.Goals as goal

pub layers_over-requires-clause-inside : goal.layers_over-requires-clause-inside
layers_over-requires-clause-inside c =
    cells_in_field_of c.args.setting.now c.args.field.now c.args.cells.now c.requires.field c.requires.sized c.requires.cells

pub returns : goal.returns
returns c = c.layers_over.ensures c.args.field.now c.requires.cells
