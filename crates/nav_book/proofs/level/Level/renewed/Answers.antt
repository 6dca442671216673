use Rattle.std.proofs.Common.{◌≡◌, ◌∙◌, List, ap, length, subst, sym}
use Rattle.std.proofs.lemmas.Result.{IfOk-weaker}
use Rattle.nav_ground.specs.declared.history.Entry.{Entry}
use Rattle.nav_ground.specs.History.{shapes_alive}
use Rattle.mesh_types.specs.Builds.{build_of}
use Rattle.build_queue.specs.BookState.{BookState}
use Rattle.nav_book.specs.LevelResults.{published_mesh}
use Rattle.nav_book.proofs.GroundTiles.{same_shapes_build}
use Rattle.nav_book.proofs.level.Level.renewed.Goals as goal

pub returns-clause-mesh : goal.returns-clause-mesh
returns-clause-mesh c =
    let state = c.self.inside.queue in
    let shown : state.published ≡ length state.history = subst (λ (s : BookState). s.published ≡ length s.history) (sym c.self.view_is) c.requires.shown in
    rw (← c.self.view_is)
    (IfOk-weaker c.renewed.result _ (λ (entries : List Entry). build_of state.ground entries (length entries) ≡ published_mesh state)
    (λ entries alive. same_shapes_build state.ground entries state.history (length entries) state.published
    (alive ∙ ap (shapes_alive state.history) (sym shown))) c.renewed.ensures.alive)
