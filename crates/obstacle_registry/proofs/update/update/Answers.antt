use Rattle.std.proofs.Common.{ap, ◌∙◌}
use Rattle.build_queue.specs.BookState.{BookState}
use Rattle.obstacle_registry.proofs.Updating.{steps_keep}
use Rattle.obstacle_registry.proofs.update.update.Goals as goal

pub returns-in_err-built-clause-ground : goal.returns-in_err-built-clause-ground
returns-in_err-built-clause-ground g c =
    let some = c.in_err-built.ensures.refused in
    (steps_keep some.steps c.args.level.now c.aim_if_shown.new.level c.build_some.new.level c.aim_if_shown.ensures.state some.done).1

pub returns-in_err-built-clause-history : goal.returns-in_err-built-clause-history
returns-in_err-built-clause-history g c =
    let some = c.in_err-built.ensures.refused in
    (steps_keep some.steps c.args.level.now c.aim_if_shown.new.level c.build_some.new.level c.aim_if_shown.ensures.state some.done).0

pub returns-in_err-answer-clause-ground : goal.returns-in_err-answer-clause-ground
returns-in_err-answer-clause-ground g c =
    ap (λ (b : BookState). b.ground) c.in_err-answer.ensures.refused
    ∙ (steps_keep c.args.most c.args.level.now c.aim_if_shown.new.level c.build_some.new.level c.aim_if_shown.ensures.state c.in_ok-built.ensures.state).1

pub returns-in_err-answer-clause-history : goal.returns-in_err-answer-clause-history
returns-in_err-answer-clause-history g c =
    ap (λ (b : BookState). b.history) c.in_err-answer.ensures.refused
    ∙ (steps_keep c.args.most c.args.level.now c.aim_if_shown.new.level c.build_some.new.level c.aim_if_shown.ensures.state c.in_ok-built.ensures.state).0

pub returns-clause-ground : goal.returns-clause-ground
returns-clause-ground g c =
    ap (λ (b : BookState). b.ground) c.in_ok-answer.ensures.published
    ∙ (steps_keep c.args.most c.args.level.now c.aim_if_shown.new.level c.build_some.new.level c.aim_if_shown.ensures.state c.in_ok-built.ensures.state).1

pub returns-clause-history : goal.returns-clause-history
returns-clause-history g c =
    ap (λ (b : BookState). b.history) c.in_ok-answer.ensures.published
    ∙ (steps_keep c.args.most c.args.level.now c.aim_if_shown.new.level c.build_some.new.level c.aim_if_shown.ensures.state c.in_ok-built.ensures.state).0
