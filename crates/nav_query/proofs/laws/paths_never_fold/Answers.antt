use Rattle.nav_query.proofs.UnfoldedBuilds.{unfolded_answer}
use Rattle.nav_query.proofs.laws.paths_never_fold.Goals as goal

pub returns : goal.returns
returns c ground history k rules' requests question answer right = unfolded_answer ground history k question answer rules' requests right
