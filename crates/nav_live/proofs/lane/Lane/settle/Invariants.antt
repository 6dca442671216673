use Rattle.nav_live.specs.Waiting.{HasWaited}
use Rattle.nav_live.proofs.lane.Lane.settle.Given as goal

-- the lane has waited since the call
abbrev pub invariant-loop : goal.invariant-loop
invariant-loop g l = HasWaited l.context.lock.now l.fn.self l.self
