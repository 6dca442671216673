use Rattle.path_queries.specs.declared.plans.PathQuery.{PathQuery}
use Rattle.path_queries.specs.Plans.{IsRightPlan}
use Rattle.std.proofs.Common.{subst}
use Rattle.nav_handle.specs.Answers.{IsAskedBy}
use Rattle.way_handle.specs.Planning.{plan_ends, told_plan}
use Rattle.way_handle.proofs.plans.plan.Goals as goal

pub returns-clause-asked : goal.returns-clause-asked
returns-clause-asked g c can =
    subst (λ (q : PathQuery). IsAskedBy (IsRightPlan q) plan_ends told_plan (g.H.HasMesh.mesh_in c.args.held.now) (c.args.plan.now, c.args.links.now, c.args.turns.now)
    (c.end_plan.new.plan, c.end_plan.new.links, c.end_plan.new.turns) c.end_plan.result) c.in-Some.ensures.query
    (c.end_plan.ensures _ c.in-Some.query c.ask_in_room-answer.ensures.replied)
