use Rattle.std.proofs.Common.{length}
use Rattle.span_text.proofs.BodyLaws.{HasRead}
use Rattle.span_text.proofs.field.read_body.Given as goal

-- the lines so far, and what they said
abbrev pub invariant-loop-said : goal.invariant-loop-said
invariant-loop-said l = HasRead l.bytes l.rest l.setting l.before l.spans.items l.count

abbrev pub decreases-loop-said : goal.decreases-loop-said
decreases-loop-said l = length l.rest
