use Rattle.crowd_moves.proofs.FindingLaws.{entries_more}
use Rattle.crowd_moves.proofs.contacts.push_entries.Goals as goal

pub loop-k-preserved : goal.loop-k-preserved
loop-k-preserved c =
    entries_more c.args.agents.now c.args.i c.args.entries.now c.args.begin c.loop-k.k c.args.others.now.items c.loop-k.others.items c.push_if_near.new.others.items
    (record { key = 0; place = 0 }) c.loop-k.invariant c.in_ok-push_if_near.ensures
