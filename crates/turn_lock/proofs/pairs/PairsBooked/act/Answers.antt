use Rattle.std.proofs.Common.{rules}
use Rattle.turn_lock.proofs.pairs.PairsBooked.act.Goals as goal

pub invariant_of-self : goal.invariant_of-self
invariant_of-self g c = search rules

pub returns-clause-grows : goal.returns-clause-grows
returns-clause-grows g c = search rules

pub returns-clause-did : goal.returns-clause-did
returns-clause-did g c = search rules

pub returns-clause-step : goal.returns-clause-step
returns-clause-step g c = search rules
