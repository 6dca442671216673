use Rattle.std.proofs.Common.{◌≡◌, ◌∙◌, ap, None, subst, sym, rules}
use Rattle.mesh_types.specs.declared.mesh.Mesh.{Mesh}
use Rattle.mesh_types.specs.Soundness.{IsSound}
use Rattle.mesh_types.specs.WholeMesh.{mesh_of}
use Rattle.tile_links.specs.NewTiles.{tiles_after}
use Rattle.build_queue.specs.BookState.{BookState, least_awaited}
use Rattle.nav_book.specs.LevelResults.{target_mesh}
use Rattle.nav_book.proofs.Differing.{replaced_differs}
use Rattle.nav_book.proofs.GroundTiles.{IsSetting-of_build}
use Rattle.nav_book.proofs.KeptTiles.{are_news, few_after, is_whole, setting_fits, target_is}
use Rattle.nav_book.proofs.level.Level.next_mesh.Goals as goal

pub replaced-requires-clause-setting : goal.replaced-requires-clause-setting
replaced-requires-clause-setting c = rw c.get.ensures (setting_fits c.self.inside.queue c.self.inside.fresh c.self.inside.mesh c.self.invariant.tiles)

pub replaced-requires-clause-mesh : goal.replaced-requires-clause-mesh
replaced-requires-clause-mesh c = rw c.get.ensures (is_whole c.self.inside.queue c.self.inside.fresh c.self.inside.mesh c.self.invariant.tiles)

pub replaced-requires-clause-news : goal.replaced-requires-clause-news
replaced-requires-clause-news c =
    let none = subst (λ (state : BookState). least_awaited state ≡ None) (sym c.self.view_is) c.requires in
    rw c.get.ensures (are_news c.self.inside.queue c.self.inside.fresh c.self.inside.mesh c.self.invariant.tiles none _ (search rules))

pub replaced-requires-clause-few : goal.replaced-requires-clause-few
replaced-requires-clause-few c =
    let none = subst (λ (state : BookState). least_awaited state ≡ None) (sym c.self.view_is) c.requires in
    rw c.get.ensures (few_after c.self.inside.queue c.self.inside.fresh c.self.inside.mesh c.self.invariant.tiles none _ (search rules))

pub after-requires-clause-setting : goal.after-requires-clause-setting
after-requires-clause-setting c =
    let none = subst (λ (state : BookState). least_awaited state ≡ None) (sym c.self.view_is) c.requires in
    IsSetting-of_build c.self.inside.queue.ground c.self.inside.queue.history c.self.inside.queue.target _ c.self.invariant.tiles.rules.level
    (c.in_ok-shared.ensures.ok ∙ c.in_ok-mesh.ensures.mesh
    ∙ ap (λ (mesh : Mesh). mesh_of mesh.setting (tiles_after c.news-news.result.now mesh.tiles)) c.get.ensures
    ∙ target_is c.self.inside.queue c.self.inside.fresh c.self.inside.mesh c.self.invariant.tiles none c.news-news.result.now (search rules))

pub after-requires-clause-differ : goal.after-requires-clause-differ
after-requires-clause-differ c =
    replaced_differs c.news-news.result.now c.self.inside.mesh _ (is_whole c.self.inside.queue c.self.inside.fresh c.self.inside.mesh c.self.invariant.tiles)
    (subst IsSound (sym c.in_ok-shared.ensures.ok) c.in_ok-mesh.ensures.sound)
    (c.in_ok-shared.ensures.ok ∙ c.in_ok-mesh.ensures.mesh
    ∙ ap (λ (mesh : Mesh). mesh_of mesh.setting (tiles_after c.news-news.result.now mesh.tiles)) c.get.ensures)

pub returns-clause-mesh : goal.returns-clause-mesh
returns-clause-mesh c =
    let none = subst (λ (state : BookState). least_awaited state ≡ None) (sym c.self.view_is) c.requires in
    c.after.ensures ∙ c.in_ok-shared.ensures.ok ∙ c.in_ok-mesh.ensures.mesh
    ∙ ap (λ (mesh : Mesh). mesh_of mesh.setting (tiles_after c.news-news.result.now mesh.tiles)) c.get.ensures
    ∙ target_is c.self.inside.queue c.self.inside.fresh c.self.inside.mesh c.self.invariant.tiles none c.news-news.result.now (search rules)
    ∙ ap target_mesh c.self.view_is
