use Rattle.nav_query.proofs.HopStretches.{unfolded_hop}
use Rattle.nav_query.proofs.laws.hops_never_fold.Goals as goal

pub returns : goal.returns
returns c = unfolded_hop
