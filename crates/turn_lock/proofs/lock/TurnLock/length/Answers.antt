use Rattle.std.proofs.Common.{rules}
use Rattle.turn_lock.proofs.Steps.{looks}
use Rattle.turn_lock.proofs.lock.TurnLock.length.Goals as goal

pub load-requires : goal.load-requires
load-requires g c = (search rules, search rules, looks g.B.Booked.root g.B.Booked.entries g.B.Booked.maker _ _ _ _ _ (search rules) (search rules))
