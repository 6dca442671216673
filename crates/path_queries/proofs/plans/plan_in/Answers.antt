use Rattle.std.proofs.lemmas.Result.{IfOk-weaker}
use Rattle.path_queries.proofs.PlanLaws.{alike_plans, plan_as_path}
use Rattle.path_queries.proofs.plans.plan_in.Goals as goal

pub returns-clause-only : goal.returns-clause-only
returns-clause-only c =
    IfOk-weaker c.right_plan.result _ _ (λ answer right free other is. alike_plans c.args.mesh.now c.args.query.now free answer other right is)
    c.right_plan.ensures.right

pub returns-clause-as_path : goal.returns-clause-as_path
returns-clause-as_path c =
    IfOk-weaker c.right_plan.result _ _
    (λ answer right free all none path is. plan_as_path c.args.mesh.now c.args.query.now c.requires.sound all free answer path none right is)
    c.right_plan.ensures.right
