use Rattle.std.proofs.Common.{sym, subst, refl, arith}
use Rattle.nav_ground.specs.Cells.{IsCut}
use Rattle.nav_ground.proofs.Literals.{IsCut-shown}
use Rattle.tests_mesh.proofs.Literals.{IsInTile-shown, AreSmall-shown}
use Rattle.tests_mesh.proofs.storeys.by_strips.Goals as goal

pub stored-requires : goal.stored-requires
stored-requires c = AreSmall-shown _ refl

pub strip_mesh_over-requires-clause-cells : goal.strip_mesh_over-requires-clause-cells
strip_mesh_over-requires-clause-cells c = subst IsCut (sym c.in_ok-stored.ensures) (IsCut-shown _ refl)

pub strip_mesh_over-requires-clause-tile : goal.strip_mesh_over-requires-clause-tile
strip_mesh_over-requires-clause-tile c = rw c.in_ok-stored.ensures (IsInTile-shown _ _ _ (omega arith) refl)
