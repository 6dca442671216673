use Rattle.std.proofs.Common.{rules}
use Rattle.corridor_search.proofs.weights.weight.Goals as goal

pub returns : goal.returns
returns c = search rules
