use Rattle.std.proofs.Common.{◌∙◌, sym}
use Rattle.nav_ground.proofs.Literals.{IsField-shown}
use Rattle.tests_ground.proofs.rules.keeps_rules.Goals as goal

pub returns : goal.returns
returns c = λ h. IsField-shown c.args.field.now (sym c.is_field.ensures ∙ h)
