use Rattle.std.proofs.Common.{◌≡◌, ◌≤◌, List, [], ◌∷◌, ap, sym, subst, arith}
use Rattle.nav_ground.specs.declared.setting.Setting.{Setting}
use Rattle.nav_ground.specs.Limits.{IsSetting}
use Rattle.mesh_types.specs.declared.mesh.Mesh.{Mesh}
use Rattle.mesh_types.specs.declared.mesh.TileMesh.{TileMesh}
use Rattle.mesh_types.specs.Soundness.{polygon_count}
use Rattle.mesh_types.specs.WholeMesh.{mesh_of}
use Rattle.tests_mesh.specs.HandSettings.{plain_setting}
use Rattle.tests_mesh.specs.TwoTiles.{hand_tile, left_tile, right_tile}
use Rattle.tile_links.specs.NewTiles.{New, AreNew, IsWhole, tiles_after}
use Rattle.tests_mesh.proofs.HandSettings.{IsSetting-plain}
use Rattle.tests_mesh.proofs.HandTiles.{IsWhole-hand, AreNew-hand}
use Rattle.tests_mesh.proofs.borders.empty_right.Goals as goal

setting_is : (mesh : Mesh) → mesh ≡ mesh_of plain_setting (left_tile ∷ right_tile ∷ []) → mesh.setting ≡ plain_setting
unfolding mesh_of
setting_is mesh is = ap (λ (m : Mesh). m.setting) is

tiles_are : (mesh : Mesh) → mesh ≡ mesh_of plain_setting (left_tile ∷ right_tile ∷ []) → mesh.tiles ≡ left_tile ∷ right_tile ∷ []
unfolding mesh_of
tiles_are mesh is = ap (λ (m : Mesh). m.tiles) is

pub replace-requires-clause-setting : goal.replace-requires-clause-setting
replace-requires-clause-setting c = subst IsSetting (sym (setting_is c.args.mesh.now c.requires)) IsSetting-plain

pub replace-requires-clause-mesh : goal.replace-requires-clause-mesh
replace-requires-clause-mesh c = subst IsWhole (sym c.requires) IsWhole-hand

new : (setting : Setting) (news : List New) → setting ≡ plain_setting → news ≡ (1, hand_tile 1 [] []) ∷ [] → AreNew setting news
new setting news is are =
    let P : Setting → Type 0 = λ (s : Setting). AreNew s news in
    subst P (sym is) (subst (AreNew plain_setting) (sym are) AreNew-hand)

few : (tiles : List TileMesh) (news : List New) → tiles ≡ left_tile ∷ right_tile ∷ [] → news ≡ (1, hand_tile 1 [] []) ∷ []
    → polygon_count (tiles_after news tiles) ≤ 8000000
few tiles news is are =
    let P : List TileMesh → Type 0 = λ (ts : List TileMesh). polygon_count (tiles_after news ts) ≤ 8000000 in
    let Q : List New → Type 0 = λ (ns : List New). polygon_count (tiles_after ns (left_tile ∷ right_tile ∷ [])) ≤ 8000000 in
    subst P (sym is) (subst Q (sym are) (omega arith))

pub replace-requires-clause-news : goal.replace-requires-clause-news
replace-requires-clause-news c =
    new c.args.mesh.now.setting c.in-Ok.news.items (setting_is c.args.mesh.now c.requires)
    c.in-Ok.ensures

pub replace-requires-clause-few : goal.replace-requires-clause-few
replace-requires-clause-few c =
    few c.args.mesh.now.tiles c.in-Ok.news.items (tiles_are c.args.mesh.now c.requires)
    c.in-Ok.ensures
