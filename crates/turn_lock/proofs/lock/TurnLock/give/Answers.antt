use Rattle.std.proofs.Common.{rules, ap, ◌*◌}
use Rattle.turn_lock.proofs.Steps.{gives_turn_as}
use Rattle.turn_lock.proofs.lock.TurnLock.give.Goals as goal

pub store-requires : goal.store-requires
store-requires g c =
    let value = c.requires.value.0 in
    let held = c.requires.value.1 in
    let root = ap (λ l. l.root) c.self.view_is in
    let counted = ap (λ k. 2 * k) (rw held at c.requires.counted) in
    (search rules, search rules, gives_turn_as g.B.Booked.root g.B.Booked.entries g.B.Booked.maker _ _ _ _ _ value _ held counted (rw root c.requires.value.2))
