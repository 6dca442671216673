use Rattle.std.proofs.Common.{◌∙◌, refl, sym}
use Rattle.build_queue.specs.Steps.{after_claim}
use Rattle.nav_book.proofs.KeptTiles.{kept_unless, whole_unless}
use Rattle.nav_book.proofs.level.Level.claim.Goals as goal

pub invariant_of-self : goal.invariant_of-self
invariant_of-self c =
    let state = c.self.inside.queue in
    record {
      tiles = kept_unless state c.self.inside.fresh c.self.inside.mesh c.self.invariant.tiles c.claim.result (after_claim state) _ c.claim.ensures.claimed
          c.claim.ensures.refused c.claim.ensures.rules refl refl refl;
      builds = c.self.invariant.builds ∙ sym (whole_unless state c.claim.result (after_claim state) _ c.claim.ensures.claimed c.claim.ensures.refused refl);
    }

pub returns : goal.returns
returns c = rw (← c.self.view_is) c.claim.ensures
