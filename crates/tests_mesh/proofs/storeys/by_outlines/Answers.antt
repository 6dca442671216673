use Rattle.std.proofs.Common.{sym, subst, refl, arith}
use Rattle.nav_ground.specs.Cells.{IsCut}
use Rattle.nav_ground.proofs.Literals.{IsCut-shown}
use Rattle.tests_mesh.proofs.Literals.{IsInTile-shown, AreSmall-shown}
use Rattle.tests_mesh.proofs.storeys.by_outlines.Goals as goal

pub stored-requires : goal.stored-requires
stored-requires c = AreSmall-shown _ refl

pub contour_mesh_over-requires-clause-cells : goal.contour_mesh_over-requires-clause-cells
contour_mesh_over-requires-clause-cells c = subst IsCut (sym c.in_ok-stored.ensures) (IsCut-shown _ refl)

pub contour_mesh_over-requires-clause-tile : goal.contour_mesh_over-requires-clause-tile
contour_mesh_over-requires-clause-tile c = rw c.in_ok-stored.ensures (IsInTile-shown _ _ _ (omega arith) refl)
