-- The test says it.
use Rattle.std.proofs.Common.{◌∙◌, rules, w64}
use Rattle.std.proofs.lemmas.Int.{to_z-of_z}
use Rattle.funnel_path.proofs.SignTests.{below_zero}
use Rattle.funnel_path.proofs.corners.is_inside.Goals as goal

pub returns : goal.returns
returns c = below_zero _ _ (to_z-of_z w64 c.dot.result (search rules) ∙ c.dot.ensures)
