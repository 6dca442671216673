use Rattle.std.proofs.Common.{arith, refl, subst, sym}
use Rattle.nav_ground.specs.Cells.{IsCut}
use Rattle.nav_ground.proofs.Literals.{IsCut-shown}
use Rattle.tests_mesh.proofs.Literals.{IsInTile-shown}
use Rattle.tests_mesh.proofs.contour_meshes.wide.Goals as goal

pub contour_mesh_over-requires-clause-cells : goal.contour_mesh_over-requires-clause-cells
contour_mesh_over-requires-clause-cells c = subst IsCut (sym c.in_ok-free.ensures.cells) (IsCut-shown _ refl)

pub contour_mesh_over-requires-clause-tile : goal.contour_mesh_over-requires-clause-tile
contour_mesh_over-requires-clause-tile c = rw (c.in_ok-free.ensures.cells, c.in_ok-free.ensures.tile) (IsInTile-shown _ _ _ (omega arith) refl)
