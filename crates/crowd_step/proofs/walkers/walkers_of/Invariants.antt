use Rattle.std.proofs.Common.{◌≡◌, length}
use Rattle.crowd_step.proofs.walkers.walkers_of.Given as goal

-- the agents so far
abbrev pub invariant-loop-i : goal.invariant-loop-i
invariant-loop-i l = length l.walkers.items ≡ l.i
