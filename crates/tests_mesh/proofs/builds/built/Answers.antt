use Rattle.std.proofs.Common.{sym, subst, refl, arith}
use Rattle.nav_ground.specs.Cells.{IsCut, IsCells}
use Rattle.nav_ground.proofs.Literals.{IsCut-shown, IsCells-shown}
use Rattle.tests_mesh.proofs.Literals.{IsInTile-shown, AreSmall-shown}
use Rattle.tests_mesh.proofs.builds.built.Goals as goal

pub shared-requires : goal.shared-requires
shared-requires g c = AreSmall-shown _ refl

pub build_tile-requires-clause-layer : goal.build_tile-requires-clause-layer
build_tile-requires-clause-layer g c = record {
  rules = record {
    cells = subst IsCut (sym c.in_ok-shared.ensures) (IsCut-shown _ refl);
    wide = subst IsCells (sym c.none.ensures) (IsCells-shown _ refl);
  };
  inside = rw c.in_ok-shared.ensures (IsInTile-shown _ _ _ (omega arith) refl);
}
