use Rattle.crowd_moves.proofs.PairLaws.{stays_apart}
use Rattle.crowd_moves.proofs.laws.stay_apart.Goals as goal

pub returns : goal.returns
returns c = stays_apart
