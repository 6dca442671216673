use Rattle.std.proofs.Common.{rules}
use Rattle.path_queries.proofs.filtered_graph.step_cost.Goals as goal

pub returns : goal.returns
returns c = search rules
