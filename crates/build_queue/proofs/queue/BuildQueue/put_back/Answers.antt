use Rattle.std.proofs.Common.{false, length, ap, arith, refl, ◌∙◌}
use Rattle.std.proofs.lemmas.List.{length-set}
use Rattle.build_queue.specs.Waiting.{Waiting}
use Rattle.build_queue.proofs.Keeping.{is_book, kept_claims}
use Rattle.build_queue.proofs.queue.BuildQueue.put_back.Goals as goal

pub invariant_of-self : goal.invariant_of-self
invariant_of-self c =
    kept_claims c.self.inside c.set_claimed.new.self c.self.invariant (ap (λ (w : Waiting). w.awaited) c.set_claimed.ensures)
    (ap (λ (w : Waiting). length w.claimed) c.set_claimed.ensures ∙ length-set c.self.inside.waiting.claimed c.args.tile false)

pub returns : goal.returns
returns c = record { back = rw (← c.self.view_is, c.set_claimed.ensures) refl; rules = is_book _ (invariant_of-self c) }

pub set_claimed-requires : goal.set_claimed-requires
set_claimed-requires c =
    let there = rw (← c.self.view_is) at c.requires in
    omega (arith, there, c.self.invariant.flags)
