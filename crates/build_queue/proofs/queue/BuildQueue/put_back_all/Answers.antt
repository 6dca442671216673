use Rattle.std.proofs.Common.{◌≡◌, length, ap, refl, subst, sym, ◌∙◌}
use Rattle.std.proofs.lemmas.List.{length-replicate}
use Rattle.build_queue.specs.BookState.{IsUnclaimed}
use Rattle.build_queue.specs.Representation.{state_of}
use Rattle.build_queue.specs.Steps.{after_put_back_all}
use Rattle.build_queue.specs.Waiting.{Waiting}
use Rattle.build_queue.proofs.BookLaws.{unclaimed_by_all}
use Rattle.build_queue.proofs.Keeping.{is_book, kept_claims}
use Rattle.build_queue.proofs.queue.BuildQueue.put_back_all.Goals as goal

pub invariant_of-self : goal.invariant_of-self
invariant_of-self c =
    kept_claims c.self.inside c.release_all.new.self c.self.invariant (ap (λ (w : Waiting). w.awaited) c.release_all.ensures)
    (ap (λ (w : Waiting). length w.claimed) c.release_all.ensures ∙ length-replicate _ _)

pub returns : goal.returns
returns c =
    let back : state_of (record c.self.inside { waiting = c.release_all.new.self }) ≡ after_put_back_all c.args.self.now =
    rw (← c.self.view_is, c.release_all.ensures) refl in
    record { back = back; free = subst IsUnclaimed (sym back) (unclaimed_by_all c.args.self.now); rules = is_book _ (invariant_of-self c) }
