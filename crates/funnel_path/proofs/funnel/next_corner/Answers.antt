-- What comes next where the apex lies behind a portal.
use Rattle.funnel_path.proofs.ConeLaws.{next_through}
use Rattle.funnel_path.proofs.funnel.next_corner.Goals as goal

pub returns-in-Behind : goal.returns-in-Behind
returns-in-Behind c = next_through c.args.portals.now c.args.goal c.args.apex c.args.first c.in-Behind.ahead c.corner_through.result c.in-Behind.ensures c.corner_through.ensures
