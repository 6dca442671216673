use Rattle.std.proofs.Common.{◌∙◌, ap, subst, sym}
use Rattle.build_queue.specs.Renewal.{IsAllShown}
use Rattle.nav_book.specs.LevelResults.{published_mesh}
use Rattle.nav_book.proofs.KeptTiles.{kept_renewed, mesh_renewed}
use Rattle.nav_book.proofs.level.Level.begin_again.Goals as goal

pub invariant_of-self : goal.invariant_of-self
invariant_of-self c = record {
  tiles = kept_renewed c.self.inside.queue c.self.inside.fresh c.self.inside.mesh c.self.invariant.tiles c.renew.new.self
      (subst IsAllShown (sym c.self.view_is) (record { shown = c.requires.shown })) c.renew.ensures.renewed c.renew.ensures.alive c.renew.ensures.rules;
  builds = c.self.invariant.builds ∙ sym c.renew.ensures.renewed.ground;
}

pub returns-clause-mesh : goal.returns-clause-mesh
returns-clause-mesh c =
    mesh_renewed c.self.inside.queue c.self.inside.fresh c.self.inside.mesh c.self.invariant.tiles c.renew.new.self
    (subst IsAllShown (sym c.self.view_is) (record { shown = c.requires.shown })) c.renew.ensures.renewed c.renew.ensures.alive
    ∙ ap published_mesh c.self.view_is

pub returns-clause-did : goal.returns-clause-did
returns-clause-did c = rw (← c.self.view_is) c.renew.ensures
