use Rattle.std.proofs.Common.{◌≡◌, List, [], ◌∷◌, ap, ◌∙◌, sym, subst}
use Rattle.std.proofs.lemmas.Result.{IfOk-weaker}
use Rattle.mesh_types.specs.declared.mesh.Mesh.{Mesh}
use Rattle.mesh_types.specs.declared.mesh.TileMesh.{TileMesh}
use Rattle.mesh_types.specs.Soundness.{AreTiles}
use Rattle.mesh_types.specs.WholeMesh.{mesh_of}
use Rattle.tests_mesh.specs.HandSettings.{plain_setting}
use Rattle.tests_mesh.specs.TwoTiles.{left_tile, right_tile}
use Rattle.tests_mesh.proofs.HandTiles.{AreTiles-hand}
use Rattle.tests_mesh.proofs.borders.mesh.Goals as goal

both : (left right : TileMesh) (tiles : List TileMesh) → tiles ≡ left ∷ right ∷ [] → left ≡ left_tile → right ≡ right_tile
    → tiles ≡ left_tile ∷ right_tile ∷ []
both left right tiles are is_left is_right =
    are ∙ ap (λ (tile : TileMesh). tile ∷ right ∷ []) is_left ∙ ap (λ (tile : TileMesh). left_tile ∷ tile ∷ []) is_right

pub whole-requires-clause-tiles : goal.whole-requires-clause-tiles
whole-requires-clause-tiles c =
    subst (AreTiles plain_setting)
    (sym (both c.in_ok-left.left c.in_ok-left.right _ c.in_ok-tiles.ensures.items c.in_ok-left.ensures.left c.in_ok-left.ensures.right))
    AreTiles-hand

pub returns : goal.returns
returns c =
    IfOk-weaker c.whole.result _ (λ (mesh : Mesh). mesh ≡ mesh_of plain_setting (left_tile ∷ right_tile ∷ []))
    (λ mesh is. is ∙ ap (mesh_of plain_setting)
    (both c.in_ok-left.left c.in_ok-left.right _ c.in_ok-tiles.ensures.items c.in_ok-left.ensures.left c.in_ok-left.ensures.right))
    c.whole.ensures.mesh
