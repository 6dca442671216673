use Rattle.std.proofs.Common.{◌≡◌, length, ap, refl, subst, sym, ◌∙◌}
use Rattle.std.proofs.lemmas.List.{length-replicate}
use Rattle.std.specs.Arc.{arc_value}
use Rattle.build_queue.specs.BookState.{BookState, IsUnclaimed}
use Rattle.build_queue.specs.GroundSteps.{after_ground}
use Rattle.build_queue.specs.Representation.{state_of}
use Rattle.build_queue.specs.Waiting.{Waiting}
use Rattle.build_queue.proofs.BookLaws.{unclaimed_by_all}
use Rattle.build_queue.proofs.Keeping.{is_book, kept_claims, kept_ground}
use Rattle.build_queue.proofs.queue.BuildQueue.show_ground.Goals as goal

pub invariant_of-self : goal.invariant_of-self
invariant_of-self c =
    kept_ground (record c.self.inside { waiting = c.release_all.new.self }) (record c.self.inside { ground = c.args.ground })
    (kept_claims c.self.inside c.release_all.new.self c.self.invariant (ap (λ (w : Waiting). w.awaited) c.release_all.ensures)
    (ap (λ (w : Waiting). length w.claimed) c.release_all.ensures ∙ length-replicate _ _))
    c.requires.rules (c.requires.setting ∙ sym (ap (λ (state : BookState). state.ground.setting) c.self.view_is))

pub returns : goal.returns
returns c =
    let state : state_of (record c.self.inside { ground = c.args.ground; waiting = c.release_all.new.self }) ≡ after_ground c.args.self.now (arc_value c.args.ground) =
    rw (← c.self.view_is, c.release_all.ensures) refl in
    record { state = state; free = subst IsUnclaimed (sym state) (record { at = (unclaimed_by_all c.args.self.now).at }); rules = is_book _ (invariant_of-self c) }
