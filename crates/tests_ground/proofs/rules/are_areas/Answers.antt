use Rattle.std.proofs.Common.{◌∙◌, sym}
use Rattle.nav_ground.proofs.Literals.{AreAreas-shown}
use Rattle.tests_ground.proofs.rules.are_areas.Goals as goal

pub returns : goal.returns
returns c = λ h. AreAreas-shown c.args.areas.now (sym c.all_small.ensures ∙ h)
