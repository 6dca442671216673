use Rattle.std.proofs.Common.{sym, subst}
use Rattle.mesh_types.specs.declared.mesh.TileMesh.{TileMesh}
use Rattle.tile_links.specs.Across.{AreAcross}
use Rattle.tests_mesh.specs.TwoTiles.{left_tile, right_tile}
use Rattle.tests_mesh.proofs.HandTiles.{AreAcross-left, AreAcross-right}
use Rattle.tests_mesh.proofs.borders.pair.Goals as goal

pub returns-clause-rightward : goal.returns-clause-rightward
returns-clause-rightward c =
    subst (λ (tile : TileMesh). AreAcross tile c.in_ok-right.right 2) (sym c.in_ok-left.ensures)
    (subst (λ (tile : TileMesh). AreAcross left_tile tile 2) (sym c.in_ok-right.ensures) AreAcross-right)

pub returns-clause-leftward : goal.returns-clause-leftward
returns-clause-leftward c =
    subst (λ (tile : TileMesh). AreAcross tile c.in_ok-left.left 0) (sym c.in_ok-right.ensures)
    (subst (λ (tile : TileMesh). AreAcross right_tile tile 0) (sym c.in_ok-left.ensures) AreAcross-left)
