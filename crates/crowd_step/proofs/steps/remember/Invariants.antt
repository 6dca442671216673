use Rattle.crowd_step.specs.Kept.{AreWishesKept}
use Rattle.crowd_step.proofs.steps.remember.Given as goal

-- what the host said stands
abbrev pub invariant-loop-i : goal.invariant-loop-i
invariant-loop-i l = AreWishesKept l.fn.steering l.steering
