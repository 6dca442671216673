-- The test says it.
use Rattle.std.proofs.Common.{◌∙◌, rules, w64}
use Rattle.std.proofs.lemmas.Int.{to_z-of_z}
use Rattle.funnel_path.proofs.SignTests.{above_zero}
use Rattle.funnel_path.proofs.funnel.lies_behind.Goals as goal

pub returns : goal.returns
returns c = above_zero _ _ (to_z-of_z w64 c.orient.result (search rules) ∙ c.orient.ensures)
