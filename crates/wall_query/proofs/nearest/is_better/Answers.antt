use Rattle.std.proofs.lemmas.Result.{IfOk-weaker}
use Rattle.wall_query.proofs.nearest.is_better.Goals as goal

pub returns-then-is_nearer : goal.returns-then-is_nearer
returns-then-is_nearer c =
    let nearer = c.is_nearer.ensures.0 c.if-is_nearer.true in
    IfOk-weaker c.is_reached.result _ _ (λ b is. (λ t. (nearer, is.0 t), λ both. is.1 both.1)) c.is_reached.ensures
