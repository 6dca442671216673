use Rattle.std.proofs.Common.{◌∙◌, ap, subst, sym}
use Rattle.std.specs.Arc.{arc_value}
use Rattle.mesh_types.specs.Builds.{build_of}
use Rattle.mesh_types.specs.Soundness.{IsSound}
use Rattle.build_queue.specs.BookState.{BookState}
use Rattle.build_queue.specs.GroundSteps.{IsAtRest, IsGroundFor}
use Rattle.nav_book.proofs.NextGrounds.{kept_ground}
use Rattle.nav_book.proofs.level.Level.show_ground.Goals as goal

pub invariant_of-self : goal.invariant_of-self
invariant_of-self c =
    let queue = c.self.inside.queue in
    let ground = arc_value c.args.next.ground in
    let kept = c.self.invariant.tiles in
    let rest = subst IsAtRest (sym c.self.view_is) (record { built = c.requires.rest.built; shown = c.requires.rest.shown }) in
    let fits = subst (λ (s : BookState). IsGroundFor s.ground ground) (sym c.self.view_is) c.requires.next.fits in
    record {
      tiles = kept_ground queue ground kept.rules rest fits c.show_ground-2.new.self c.self.inside.fresh c.clear.new.self c.show.new.self kept.each
          c.show_ground-2.ensures.state c.show_ground-2.ensures.rules c.clear.ensures
          (c.show.ensures ∙ c.requires.next.mesh ∙ ap (λ (s : BookState). build_of ground s.history s.published) (sym c.self.view_is))
          (subst IsSound (sym c.show.ensures) c.requires.next.sound);
      builds = c.show_ground.ensures ∙ c.requires.next.again ∙ sym (ap (λ (s : BookState). s.ground) c.show_ground-2.ensures.state);
    }
