use Rattle.crowd_filter.proofs.MovedLaws.{step_apart}
use Rattle.crowd_filter.proofs.laws.stay_apart.Goals as goal

pub returns : goal.returns
returns c = step_apart
