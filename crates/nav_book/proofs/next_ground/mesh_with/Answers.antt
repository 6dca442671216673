use Rattle.std.proofs.Common.{◌≡◌, ◌∙◌, ap, map, subst, sym}
use Rattle.nav_ground.specs.Limits.{IsSetting}
use Rattle.mesh_types.specs.declared.mesh.Mesh.{Mesh}
use Rattle.mesh_types.specs.Soundness.{IsSound}
use Rattle.mesh_types.specs.WholeMesh.{mesh_of}
use Rattle.tile_links.specs.NewTiles.{New, tiles_after}
use Rattle.corridor_search.specs.Changes.{DifferIn}
use Rattle.nav_book.proofs.Differing.{replaced_differs}
use Rattle.nav_book.proofs.NextGrounds.{setting_of_whole}
use Rattle.nav_book.proofs.next_ground.mesh_with.Goals as goal

-- the mesh that is made
made : (c : goal.In_ok-shared) → c.in_ok-shared.shared ≡ mesh_of c.args.shown.now.setting (tiles_after c.args.news.now c.args.shown.now.tiles)
made c =
    c.in_ok-shared.ensures.ok ∙ c.in_ok-mesh.ensures.mesh
    ∙ ap (λ (mesh : Mesh). mesh_of mesh.setting (tiles_after c.args.news.now mesh.tiles)) c.get.ensures

pub after-requires-clause-setting : goal.after-requires-clause-setting
after-requires-clause-setting c =
    subst IsSetting (sym (ap (λ (mesh : Mesh). mesh.setting) (made c) ∙ setting_of_whole c.args.shown.now.setting (tiles_after c.args.news.now c.args.shown.now.tiles)))
    c.requires.setting

pub after-requires-clause-differ : goal.after-requires-clause-differ
after-requires-clause-differ c =
    replaced_differs c.args.news.now c.args.shown.now c.in_ok-shared.shared c.requires.mesh
    (subst IsSound (sym c.in_ok-shared.ensures.ok) c.in_ok-mesh.ensures.sound) (made c)

pub returns-clause-differ : goal.returns-clause-differ
returns-clause-differ c =
    let is = c.in_ok-shared.ensures.ok ∙ c.in_ok-mesh.ensures.mesh
    ∙ ap (λ (mesh : Mesh). mesh_of mesh.setting (tiles_after c.args.news.now mesh.tiles)) c.get.ensures in
    subst (DifferIn (map (λ (new : New). new.0) c.args.news.now) c.args.shown.now) (sym c.after.ensures)
    (replaced_differs c.args.news.now c.args.shown.now c.in_ok-shared.shared c.requires.mesh
    (subst IsSound (sym c.in_ok-shared.ensures.ok) c.in_ok-mesh.ensures.sound) is)
