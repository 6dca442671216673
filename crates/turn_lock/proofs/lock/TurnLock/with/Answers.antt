use Rattle.turn_lock.proofs.lock.TurnLock.with.Goals as goal

pub give-requires-clause-counted : goal.give-requires-clause-counted
give-requires-clause-counted g c = c.length-after.ensures.counted
