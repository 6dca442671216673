use Rattle.crowd_moves.proofs.PairLaws.{comes_no_nearer}
use Rattle.crowd_moves.proofs.laws.no_nearer.Goals as goal

pub returns : goal.returns
returns c = comes_no_nearer
