use Rattle.std.proofs.lemmas.Result.{IfOk-weaker}
use Rattle.path_queries.proofs.NearestLaws.{alike-nearest}
use Rattle.path_queries.proofs.nearest.nearest_goal_in.Goals as goal

pub returns-clause-only : goal.returns-clause-only
returns-clause-only c =
    IfOk-weaker c.right_nearest.result _ _ (λ answer right free other is. alike-nearest c.args.mesh.now c.args.query.now free answer other right is)
    c.right_nearest.ensures.right
