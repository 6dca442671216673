use Rattle.std.proofs.Common.{refl}
use Rattle.crowd_step.proofs.OrderLaws.{entered_more}
use Rattle.crowd_step.proofs.ranks.entries_of.Goals as goal

pub loop-i-preserved : goal.loop-i-preserved
loop-i-preserved c = entered_more c.loop-i.entries.items c.push.new.self.items c.loop-i.i _ c.loop-i.invariant refl c.in_ok-push.ensures.items
