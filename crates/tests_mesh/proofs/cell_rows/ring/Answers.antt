use Rattle.std.proofs.Common.{subst, sym, refl}
use Rattle.nav_ground.specs.Cells.{IsCut}
use Rattle.nav_ground.proofs.Literals.{IsCut-shown}
use Rattle.tests_mesh.proofs.cell_rows.ring.Goals as goal

pub returns-clause-cells : goal.returns-clause-cells
returns-clause-cells c = subst IsCut (sym c.in_ok-free.ensures.cells) (IsCut-shown _ refl)
