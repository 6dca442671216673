use Rattle.fine_walk.proofs.OneWay.{one_way}
use Rattle.fine_walk.proofs.laws.one.Goals as goal

pub returns : goal.returns
returns c = one_way
