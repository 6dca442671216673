use Rattle.std.proofs.Common.{◌≡◌, ◌∙◌, ap, None, subst, sym}
use Rattle.mesh_types.specs.Soundness.{IsSound}
use Rattle.build_queue.specs.BookState.{BookState, least_awaited}
use Rattle.nav_book.specs.LevelResults.{target_mesh}
use Rattle.nav_book.proofs.KeptTiles.{kept_shown}
use Rattle.nav_book.proofs.level.Level.show.Goals as goal

pub invariant_of-self : goal.invariant_of-self
invariant_of-self c =
    let none = subst (λ (state : BookState). least_awaited state ≡ None) (sym c.self.view_is) c.requires.built in
    record {
      tiles = kept_shown c.self.inside.queue c.self.inside.fresh c.self.inside.mesh c.self.invariant.tiles none _ _ c.show.new.self c.publish.ensures.state
          c.publish.ensures.shown c.publish.ensures.rules c.clear.ensures (c.show.ensures ∙ c.requires.mesh ∙ ap target_mesh (sym c.self.view_is))
          (subst IsSound (sym c.show.ensures) c.requires.sound);
      builds = c.self.invariant.builds ∙ sym (ap (λ (state : BookState). state.ground) c.publish.ensures.state);
    }
