use Rattle.std.proofs.Common.{rules}
use Rattle.crowd_moves.proofs.FindingLaws.{listed_on}
use Rattle.crowd_moves.proofs.contacts.find_contacts.Goals as goal

pub loop-i-preserved : goal.loop-i-preserved
loop-i-preserved c =
    listed_on c.args.agents.now c.loop-i.first.items c.loop-i.others.items c.loop-i.i c.push_near.new.others.items c.push-in-loop-i.new.self.items c.len.result
    c.loop-i.invariant c.in_ok-push_near.ensures (search rules) c.in_ok-push-2.ensures.items
