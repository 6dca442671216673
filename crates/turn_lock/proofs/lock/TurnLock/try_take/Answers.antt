use Rattle.std.proofs.Common.{rules, refl}
use Rattle.turn_lock.proofs.Steps.{takes_turn}
use Rattle.turn_lock.proofs.lock.TurnLock.try_take.Goals as goal

pub compare_exchange-requires : goal.compare_exchange-requires
compare_exchange-requires g c = (search rules, search rules, takes_turn g.B.Booked.root g.B.Booked.entries g.B.Booked.maker _ _ _ _ _ _ _ (search rules) refl (search rules) (search rules) (search rules))
