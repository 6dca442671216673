use Rattle.std.proofs.Common.{List, sym, ap, ◌∙◌, subst}
use Rattle.nav_ground.specs.declared.setting.Setting.{Setting}
use Rattle.nav_ground.specs.Limits.{IsSetting}
use Rattle.mesh_types.specs.declared.mesh.Mesh.{Mesh}
use Rattle.mesh_types.specs.Soundness.{IsSound}
use Rattle.mesh_types.specs.WholeMesh.{mesh_of}
use Rattle.tile_links.specs.NewTiles.{AreNew, IsWhole, New, tiles_after}
use Rattle.nav_version.proofs.PatchLaws.{IsNext-of_patch, IsSetting-of_version, IsWhole-of_version, setting_of_version}
use Rattle.nav_version.proofs.press.patched.Goals as goal

pub replaced-requires-clause-setting : goal.replaced-requires-clause-setting
replaced-requires-clause-setting c =
    subst (λ (mesh : Mesh). IsSetting mesh.setting) (sym c.get.ensures) (IsSetting-of_version c.args.version.now c.requires.version)

pub replaced-requires-clause-mesh : goal.replaced-requires-clause-mesh
replaced-requires-clause-mesh c = subst IsWhole (sym c.get.ensures) (IsWhole-of_version c.args.version.now c.requires.version)

pub replaced-requires-clause-news : goal.replaced-requires-clause-news
replaced-requires-clause-news c =
    let setting = sym (setting_of_version c.args.version.now c.requires.version) ∙ ap (λ (mesh : Mesh). mesh.setting) (sym c.get.ensures) in
    subst (λ (z : Setting × List New). AreNew z.0 z.1) (λ i. (setting i, sym c.as_slice.ensures.value i)) c.requires.patch.tiles

pub returns : goal.returns
returns c =
    let is = c.new-2.ensures ∙ c.in_ok-shared.ensures.ok in
    IsNext-of_patch c.args.version.now c.args.patch.now c.as_slice.result.now c.new-2.result c.requires.version c.requires.patch
    (is ∙ c.in_ok-mesh.ensures.mesh ∙ ap (λ (mesh : Mesh). mesh_of mesh.setting (tiles_after c.as_slice.result.now mesh.tiles)) c.get.ensures)
    c.as_slice.ensures.value (subst IsSound (sym is) c.in_ok-mesh.ensures.sound)
