use Rattle.std.proofs.Common.{ap, sym, ◌∙◌, ◌<◌, Some, subst}
use Rattle.turn_lock.proofs.GrowthLemmas.{Extends-own}
use Rattle.turn_lock.proofs.Gathering.{closes}
use Rattle.turn_lock.proofs.lock.TurnLock.close.Goals as goal

pub returns : goal.returns
returns g c =
    let lock = c.self.view_is in
    let seat = c.gather-seat.ensures in
    let passes = ap (λ l. l.passes) lock in
    let done = closes g.B.Booked.root g.B.Booked.entries g.B.Booked.maker _ _ c.args.passes.items c.gather-seat.result.id c.gather-seat.result.me.0 _ _ c.take-value.result
    (seat.of.1 ∙ ap (λ l. Some l.root) (sym lock)) seat.idle.1 seat.claims
    (λ k below. c.requires.each k (subst (λ n. k < n) passes below)) c.close_with-closed.ensures.values.2 c.take-value.ensures.value in
    let root = done.root ∙ ap (λ l. l.root) lock in
    record {
      root = root;
      legal = subst (λ r. g.B.Booked.legal r (g.B.Booked.entries c.take-value.result)) root c.length-count.ensures.legal;
      extends = done.extends;
      own = λ k d below. Extends-own g.B.Booked.maker _ _ _ (done.extends k d below);
      met = done.met;
      made = done.made;
    }
