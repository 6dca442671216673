use Rattle.std.proofs.Common.{length}
use Rattle.span_text.proofs.FrontLaws.{HasCosts}
use Rattle.span_text.proofs.front.read_costs.Given as goal

-- the lines so far, and what they said
abbrev pub invariant-loop-line : goal.invariant-loop-line
invariant-loop-line l = HasCosts l.bytes l.rest l.setting l.before l.count

abbrev pub decreases-loop-line : goal.decreases-loop-line
decreases-loop-line l = length l.rest
