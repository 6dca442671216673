use Rattle.std.proofs.Common.{◌∙◌, ap, refl, subst}
use Rattle.std.specs.Arc.{arc_value}
use Rattle.mesh_types.specs.declared.mesh.Mesh.{Mesh}
use Rattle.mesh_types.specs.Builds.{build_of}
use Rattle.corridor_search.specs.Changes.{DifferIn}
use Rattle.build_queue.specs.BookState.{BookState}
use Rattle.nav_book.specs.LevelResults.{published_mesh}
use Rattle.nav_book.proofs.KeptTiles.{is_whole, setting_fits}
use Rattle.nav_book.proofs.NextGrounds.{level_tiles}
use Rattle.nav_book.proofs.level.Level.next_ground.Goals as goal

pub mesh_with-requires-clause-setting : goal.mesh_with-requires-clause-setting
mesh_with-requires-clause-setting g c = setting_fits c.self.inside.queue c.self.inside.fresh c.self.inside.mesh c.self.invariant.tiles

pub mesh_with-requires-clause-mesh : goal.mesh_with-requires-clause-mesh
mesh_with-requires-clause-mesh g c = is_whole c.self.inside.queue c.self.inside.fresh c.self.inside.mesh c.self.invariant.tiles

pub mesh_with-requires-clause-news : goal.mesh_with-requires-clause-news
mesh_with-requires-clause-news g c =
    (level_tiles c.self.inside.queue c.args.self.now (arc_value c.args.ground) c.deref.result.now c.args.changed.now c.self.inside.fresh c.in_ok-news.news
    c.self.inside.mesh c.news-2.result.now c.self.view_is c.self.invariant.tiles (record { built = c.requires.rest.built; shown = c.requires.rest.shown })
    c.requires.ground c.deref.ensures c.in_ok-news.ensures.built c.news-2.ensures).new

pub mesh_with-requires-clause-few : goal.mesh_with-requires-clause-few
mesh_with-requires-clause-few g c =
    (level_tiles c.self.inside.queue c.args.self.now (arc_value c.args.ground) c.deref.result.now c.args.changed.now c.self.inside.fresh c.in_ok-news.news
    c.self.inside.mesh c.news-2.result.now c.self.view_is c.self.invariant.tiles (record { built = c.requires.rest.built; shown = c.requires.rest.shown })
    c.requires.ground c.deref.ensures c.in_ok-news.ensures.built c.news-2.ensures).few

pub returns-clause-next : goal.returns-clause-next
returns-clause-next g c =
    let told = level_tiles c.self.inside.queue c.args.self.now (arc_value c.args.ground) c.deref.result.now c.args.changed.now c.self.inside.fresh c.in_ok-news.news
    c.self.inside.mesh c.news-2.result.now c.self.view_is c.self.invariant.tiles (record { built = c.requires.rest.built; shown = c.requires.rest.shown })
    c.requires.ground c.deref.ensures c.in_ok-news.ensures.built c.news-2.ensures in
    record {
      own = refl;
      again = c.in_ok-again.ensures;
      fits = c.requires.ground.ground;
      mesh = c.in_ok-mesh.ensures.mesh ∙ told.mesh ∙ ap (λ (s : BookState). build_of (arc_value c.args.ground) s.history s.published) c.self.view_is;
      sound = c.in_ok-mesh.ensures.sound;
    }

pub returns-clause-differ : goal.returns-clause-differ
returns-clause-differ g c =
    let told = level_tiles c.self.inside.queue c.args.self.now (arc_value c.args.ground) c.deref.result.now c.args.changed.now c.self.inside.fresh c.in_ok-news.news
    c.self.inside.mesh c.news-2.result.now c.self.view_is c.self.invariant.tiles (record { built = c.requires.rest.built; shown = c.requires.rest.shown })
    c.requires.ground c.deref.ensures c.in_ok-news.ensures.built c.news-2.ensures in
    subst (λ (mesh : Mesh). DifferIn c.args.changed.now mesh c.in_ok-mesh.mesh) (c.self.invariant.tiles.shown ∙ ap published_mesh c.self.view_is)
    (told.differ c.in_ok-mesh.mesh c.in_ok-mesh.ensures.differ)
