use Rattle.std.proofs.Common.{◌∙◌}
use Rattle.layer_cut.proofs.cut.layers.Goals as goal

pub returns : goal.returns
returns c = c.layers_over.ensures c.args.field (c.in_ok-shared.ensures.ok ∙ c.in_ok-compact.ensures.cells)
