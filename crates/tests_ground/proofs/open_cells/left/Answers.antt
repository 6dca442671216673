use Rattle.std.proofs.Common.{subst, sym, refl}
use Rattle.nav_ground.specs.Cells.{IsCells}
use Rattle.nav_ground.proofs.Literals.{IsCells-shown}
use Rattle.tests_ground.proofs.open_cells.left.Goals as goal

pub returns : goal.returns
returns c = subst IsCells (sym c.in_ok-cells.ensures) (IsCells-shown _ refl)
