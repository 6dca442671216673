use Rattle.std.proofs.Common.{sym, subst, refl}
use Rattle.nav_ground.specs.Cells.{IsCells, IsCut}
use Rattle.nav_ground.proofs.Literals.{IsCells-shown, IsCut-shown}
use Rattle.tests_ground.proofs.marks.layer.Goals as goal

pub returns : goal.returns
returns c = record {
  cells = subst IsCut (sym c.in_ok-stored.ensures) (IsCut-shown _ refl);
  wide = subst IsCells (sym c.none.ensures) (IsCells-shown _ refl);
}
