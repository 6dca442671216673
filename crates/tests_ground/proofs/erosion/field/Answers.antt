use Rattle.std.proofs.Common.{◌∙◌, sym, subst, refl}
use Rattle.nav_ground.specs.Cells.{IsCompact}
use Rattle.tests_ground.proofs.Literals.{IsCompact-shown}
use Rattle.tests_ground.proofs.erosion.field.Goals as goal

pub returns : goal.returns
returns c = subst IsCompact (sym (c.from_vec.ensures ∙ c.in_ok-cells_of.ensures)) (IsCompact-shown _ refl)
