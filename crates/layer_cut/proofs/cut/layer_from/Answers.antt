use Rattle.std.proofs.Common.{◌∙◌}
use Rattle.std.proofs.lemmas.Result.{IfOk-weaker}
use Rattle.layer_cut.proofs.FieldCells.{layer_is}
use Rattle.layer_cut.proofs.cut.layer_from.Goals as goal

pub returns : goal.returns
returns c =
    IfOk-weaker c.cut.result _ _
    (λ layer made. layer_is c.args.setting.now c.args.field.now _ c.args.tile layer (c.in_ok-shared.ensures.ok ∙ c.in_ok-compact.ensures.cells) made)
    c.cut.ensures
