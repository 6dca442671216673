use Rattle.crowd_step.specs.Lists.{Extends}
use Rattle.crowd_step.proofs.intents.push_tried.Given as goal

-- what was there stays
abbrev pub invariant-loop-candidate : goal.invariant-loop-candidate
invariant-loop-candidate l = Extends l.fn.vectors.items l.vectors.items
