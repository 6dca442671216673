use Rattle.std.proofs.Common.{◌∙◌}
use Rattle.std.proofs.lemmas.Result.{IfOk-weaker}
use Rattle.layer_cut.proofs.FieldCells.{cells_are, cells_in_field_of}
use Rattle.layer_cut.proofs.cut.cells.Goals as goal

pub returns-clause-cells : goal.returns-clause-cells
returns-clause-cells c =
    IfOk-weaker c.compact.result _ _ (λ compact made. cells_are c.args.setting.now c.args.field.now c.as_slice.result.now compact.cells (c.as_slice.ensures.value ∙ c.in_ok-areas.ensures.areas) made)
    c.compact.ensures.cells

pub returns-clause-inside : goal.returns-clause-inside
returns-clause-inside c =
    IfOk-weaker c.compact.result _ _
    (λ compact made. cells_in_field_of c.args.setting.now c.args.field.now compact.cells c.requires.field c.requires.sized
    made)
    (returns-clause-cells c)
