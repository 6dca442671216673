use Rattle.crowd_filter.proofs.MovedLaws.{walks_right}
use Rattle.crowd_filter.proofs.laws.on_mesh.Goals as goal

pub returns : goal.returns
returns c = walks_right c.stays.ensures.on_mesh c.stays.ensures.end
