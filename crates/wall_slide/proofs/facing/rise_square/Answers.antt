use Rattle.std.proofs.Common.{◌*◌, ◌∙◌}
use Rattle.wall_slide.proofs.facing.rise_square.Goals as goal

pub returns : goal.returns
returns c = let same = c.from-rise.ensures ∙ c.rise_of.ensures in λ i. same i * same i
