use Rattle.std.proofs.Common.{refl}
use Rattle.path_queries.proofs.plans.right_plan.Goals as goal

pub returns-in_default-clause-right : goal.returns-in_default-clause-right
returns-in_default-clause-right c = c.in_default.ensures.none.0 refl
