use Rattle.std.proofs.lemmas.Result.{IfOk-weaker}
use Rattle.layer_cut.proofs.FieldCells.{layers_are}
use Rattle.layer_cut.proofs.cut.layers_over.Goals as goal

pub returns : goal.returns
returns c = λ field same.
    IfOk-weaker c.hand_out.result _ _ (λ layers made. layers_are c.args.setting.now field _ layers.items same made) c.hand_out.ensures
