use Rattle.navd_scene.proofs.Ends.{run_ok, run_bad_text, run_usage, run_read_fault, run_write_fault, run_too_long, run_too_many, run_no_memory, run_more, run_complete, run_wrong}
use Rattle.navd_scene.proofs.course.run.Goals as goal

pub returns-clause-ok : goal.returns-clause-ok
returns-clause-ok g c = run_ok _ _ _ _ _ _ _ _ _ c.respond.ensures.run

pub returns-clause-bad_text : goal.returns-clause-bad_text
returns-clause-bad_text g c = run_bad_text _ _ _ _ _ _ _ _ _ c.respond.ensures.run

pub returns-clause-usage : goal.returns-clause-usage
returns-clause-usage g c = run_usage _ _ _ _ _ _ _ _ _ c.respond.ensures.run

pub returns-clause-read_fault : goal.returns-clause-read_fault
returns-clause-read_fault g c = run_read_fault _ _ _ _ _ _ _ _ _ c.respond.ensures.run

pub returns-clause-write_fault : goal.returns-clause-write_fault
returns-clause-write_fault g c = run_write_fault _ _ _ _ _ _ _ _ _ c.respond.ensures.run

pub returns-clause-too_long : goal.returns-clause-too_long
returns-clause-too_long g c = run_too_long _ _ _ _ _ _ _ _ _ c.respond.ensures.run

pub returns-clause-too_many : goal.returns-clause-too_many
returns-clause-too_many g c = run_too_many _ _ _ _ _ _ _ _ _ c.respond.ensures.run

pub returns-clause-no_memory : goal.returns-clause-no_memory
returns-clause-no_memory g c = run_no_memory _ _ _ _ _ _ _ _ _ c.respond.ensures.run

pub returns-clause-more : goal.returns-clause-more
returns-clause-more g c = run_more _ _ _ _ _ _ _ _ _ c.respond.ensures.run

pub returns-clause-complete : goal.returns-clause-complete
returns-clause-complete g c = run_complete _ _ _ _ _ _ _ _ _ c.respond.ensures.run

pub returns-clause-wrong : goal.returns-clause-wrong
returns-clause-wrong g c = run_wrong _ _ _ _ _ _ _ _ _ c.respond.ensures.run
