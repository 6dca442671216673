use Rattle.path_queries.proofs.PartialLaws.{one-open}
use Rattle.path_queries.proofs.partial.partial_plan.Goals as goal

pub plan_toward-requires-clause-goals : goal.plan_toward-requires-clause-goals
plan_toward-requires-clause-goals c = one-open c.args.mesh.now c.args.query.now c.args.start.first c.in-Some.goal c.in-Some.ensures.some
