use Rattle.nav_book.proofs.KeptTiles.{setting_fits}
use Rattle.nav_book.proofs.ShownAnswers.{right_published, unfolded_published}
use Rattle.nav_book.proofs.level.Level.ask_and_prepare.Goals as goal

pub ask_and_prepare-requires-clause-setting : goal.ask_and_prepare-requires-clause-setting
ask_and_prepare-requires-clause-setting c = setting_fits c.self.inside.queue c.self.inside.fresh c.self.inside.mesh c.self.invariant.tiles

pub returns-clause-right : goal.returns-clause-right
returns-clause-right c =
    right_published c.self.inside.queue _ c.self.inside.fresh c.self.inside.mesh c.args.question.now _ c.self.view_is c.self.invariant.tiles c.in_ok-answer.ensures.right

pub returns-clause-unfolded : goal.returns-clause-unfolded
returns-clause-unfolded c =
    unfolded_published c.self.inside.queue c.self.inside.fresh c.self.inside.mesh c.args.question.now _ c.self.invariant.tiles c.in_ok-answer.ensures.right
