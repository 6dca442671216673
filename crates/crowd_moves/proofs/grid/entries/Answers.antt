use Rattle.crowd_moves.proofs.FindingLaws.{entries_ordered}
use Rattle.crowd_moves.proofs.grid.entries.Goals as goal

pub returns : goal.returns
returns c =
    entries_ordered c.args.side c.args.agents.now c.in_ok-entries.entries.items c.order_by_key.new.entries.items c.in_ok-entries.ensures
    c.order_by_key.ensures.all c.order_by_key.ensures.order
