-- The test says it.
use Rattle.std.proofs.Common.{◌∙◌, rules, w64}
use Rattle.std.proofs.lemmas.Int.{to_z-of_z}
use Rattle.funnel_path.proofs.SignTests.{at_least_zero}
use Rattle.funnel_path.proofs.funnel.Funnel.closes_left.Goals as goal

pub returns : goal.returns
returns c = at_least_zero _ _ (to_z-of_z w64 c.orient.result (search rules) ∙ c.orient.ensures)
