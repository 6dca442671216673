use Rattle.nav_play.proofs.Held.{held_none, jobs_none}
use Rattle.nav_play.proofs.run.settle.Goals as goal

pub returns-in_err-k-clause-most : goal.returns-in_err-k-clause-most
returns-in_err-k-clause-most g c = c.settle.ensures.did.most

pub returns-clause-jobs : goal.returns-clause-jobs
returns-clause-jobs g c = jobs_none c.args.workers.now c.drop_all.new.self c.drop_all.ensures

pub returns-clause-held : goal.returns-clause-held
returns-clause-held g c = held_none c.args.book.now.state.ground c.drop_all.new.self _ c.drop_all.ensures
