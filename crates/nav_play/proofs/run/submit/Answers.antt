use Rattle.std.proofs.Common.{◌∙◌, ap, sym, None, Some}
use Rattle.nav_play.specs.Jobs.{book_after_submit, submit_said}
use Rattle.nav_play.proofs.Held.{held_at, held_set, job_held, jobs_set, submit_answers}
use Rattle.nav_play.proofs.run.submit.Goals as goal

pub submit-requires : goal.submit-requires
submit-requires c = held_at _ _ _ _ c.requires.held c.requires.there (sym c.in-Some.is ∙ c.take.ensures.taken)

pub returns-in-None-clause-answer : goal.returns-in-None-clause-answer
returns-in-None-clause-answer c =
    sym (ap (submit_said c.args.book.now.state c.args.worker) (job_held c.args.workers.now c.args.worker None (sym c.in-None.is ∙ c.take.ensures.taken)))

pub returns-in-None-clause-book : goal.returns-in-None-clause-book
returns-in-None-clause-book c =
    sym (ap (book_after_submit c.args.book.now.state) (job_held c.args.workers.now c.args.worker None (sym c.in-None.is ∙ c.take.ensures.taken)))

pub returns-in-None-clause-jobs : goal.returns-in-None-clause-jobs
returns-in-None-clause-jobs c = jobs_set c.args.workers.now c.take.new.self c.args.worker None c.take.ensures.others

pub returns-in-None-clause-held : goal.returns-in-None-clause-held
returns-in-None-clause-held c = held_set _ c.args.workers.now c.take.new.self c.args.worker None c.take.ensures.others c.requires.held tt

pub returns-in-Taken-clause-answer : goal.returns-in-Taken-clause-answer
returns-in-Taken-clause-answer c =
    submit_answers c.args.book.now.state c.args.workers.now c.args.worker c.in-Some.made _ (sym c.in-Some.is ∙ c.take.ensures.taken) (sym c.in-Taken.is ∙ c.submit.ensures.did.answer)

pub returns-in-Taken-clause-book : goal.returns-in-Taken-clause-book
returns-in-Taken-clause-book c =
    c.submit.ensures.did.stored
    ∙ sym (ap (book_after_submit c.args.book.now.state) (job_held c.args.workers.now c.args.worker (Some c.in-Some.made) (sym c.in-Some.is ∙ c.take.ensures.taken)))

pub returns-in-Taken-clause-jobs : goal.returns-in-Taken-clause-jobs
returns-in-Taken-clause-jobs c = jobs_set c.args.workers.now c.take.new.self c.args.worker None c.take.ensures.others

pub returns-in-Taken-clause-held : goal.returns-in-Taken-clause-held
returns-in-Taken-clause-held c = held_set _ c.args.workers.now c.take.new.self c.args.worker None c.take.ensures.others c.requires.held tt

pub returns-in-Stale-clause-answer : goal.returns-in-Stale-clause-answer
returns-in-Stale-clause-answer c =
    submit_answers c.args.book.now.state c.args.workers.now c.args.worker c.in-Some.made _ (sym c.in-Some.is ∙ c.take.ensures.taken) (sym c.in-Stale.is ∙ c.submit.ensures.did.answer)

pub returns-in-Stale-clause-book : goal.returns-in-Stale-clause-book
returns-in-Stale-clause-book c =
    c.submit.ensures.did.stored
    ∙ sym (ap (book_after_submit c.args.book.now.state) (job_held c.args.workers.now c.args.worker (Some c.in-Some.made) (sym c.in-Some.is ∙ c.take.ensures.taken)))

pub returns-in-Stale-clause-jobs : goal.returns-in-Stale-clause-jobs
returns-in-Stale-clause-jobs c = jobs_set c.args.workers.now c.take.new.self c.args.worker None c.take.ensures.others

pub returns-in-Stale-clause-held : goal.returns-in-Stale-clause-held
returns-in-Stale-clause-held c = held_set _ c.args.workers.now c.take.new.self c.args.worker None c.take.ensures.others c.requires.held tt
