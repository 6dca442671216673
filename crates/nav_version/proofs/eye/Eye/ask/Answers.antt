use Rattle.nav_query.proofs.UnfoldedBuilds.{unfolded_answer}
use Rattle.nav_version.proofs.eye.Eye.ask.Goals as goal

pub returns-clause-unfolded : goal.returns-clause-unfolded
returns-clause-unfolded c =
    let found = c.in_ok-told.ensures in
    unfolded_answer _ _ _ c.args.question.now c.in_ok-told.answer found.rules.level found.rules.requests found.right_there.0
