use Rattle.crowd_filter.proofs.MovedLaws.{step_no_nearer}
use Rattle.crowd_filter.proofs.laws.no_nearer.Goals as goal

pub returns : goal.returns
returns c = step_no_nearer
