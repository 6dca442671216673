use Rattle.std.proofs.Common.{◌∙◌, ap, sym, None}
use Rattle.nav_play.specs.Jobs.{back_said, book_after_back}
use Rattle.nav_play.proofs.Held.{held_at, held_set, job_held, jobs_set}
use Rattle.nav_play.proofs.run.put_back.Goals as goal

pub returns-in-None-clause-jobs : goal.returns-in-None-clause-jobs
returns-in-None-clause-jobs c = jobs_set c.args.workers.now c.take.new.self c.args.worker None c.take.ensures.others

pub returns-clause-jobs : goal.returns-clause-jobs
returns-clause-jobs c = jobs_set c.args.workers.now c.take.new.self c.args.worker None c.take.ensures.others

pub returns-in-None-clause-held : goal.returns-in-None-clause-held
returns-in-None-clause-held c = held_set _ c.args.workers.now c.take.new.self c.args.worker None c.take.ensures.others c.requires.held tt

pub returns-clause-held : goal.returns-clause-held
returns-clause-held c = held_set _ c.args.workers.now c.take.new.self c.args.worker None c.take.ensures.others c.requires.held tt

pub put_back-requires : goal.put_back-requires
put_back-requires c = (held_at c.args.book.now.state.ground _ _ _ c.requires.held c.requires.there (sym c.in-Some.is ∙ c.take.ensures.taken)).there

pub returns-in-None-clause-answer : goal.returns-in-None-clause-answer
returns-in-None-clause-answer c = sym (ap (back_said c.args.worker) (job_held c.args.workers.now c.args.worker None (sym c.in-None.is ∙ c.take.ensures.taken)))

pub returns-in-None-clause-book : goal.returns-in-None-clause-book
returns-in-None-clause-book c = sym (ap (book_after_back c.args.book.now.state) (job_held c.args.workers.now c.args.worker None (sym c.in-None.is ∙ c.take.ensures.taken)))

pub returns-clause-answer : goal.returns-clause-answer
returns-clause-answer c = sym (ap (back_said c.args.worker) (job_held c.args.workers.now c.args.worker _ (sym c.in-Some.is ∙ c.take.ensures.taken)))

pub returns-clause-book : goal.returns-clause-book
returns-clause-book c = c.put_back.ensures.did.back ∙ sym (ap (book_after_back c.args.book.now.state) (job_held c.args.workers.now c.args.worker _ (sym c.in-Some.is ∙ c.take.ensures.taken)))
