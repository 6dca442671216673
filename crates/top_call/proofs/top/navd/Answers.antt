use Rattle.top_call.proofs.RasterRuns.{run_raster, run_no_level, run_many}
use Rattle.top_call.proofs.CourseLaws.{run_too_many, run_ok, run_bad_text, run_usage, run_read_fault, run_write_fault, run_too_long, run_no_memory, run_no_form, run_more, run_complete, run_wrong, run_made}
use Rattle.top_call.proofs.top.navd.Goals as goal

pub returns-clause-told : goal.returns-clause-told
returns-clause-told g c =
    let run = c.respond.ensures.run in
    record {
      ok = run_ok _ _ _ _ run;
      bad_text = run_bad_text _ _ _ _ run;
      usage = run_usage _ _ _ _ run;
      read_fault = run_read_fault _ _ _ _ run;
      write_fault = run_write_fault _ _ _ _ run;
      too_long = run_too_long _ _ _ _ run;
      too_many = run_too_many _ _ _ _ run;
      no_memory = run_no_memory _ _ _ _ run;
    }

pub returns-clause-due : goal.returns-clause-due
returns-clause-due g c =
    let run = c.respond.ensures.run in
    record {
      no_form = run_no_form _ _ _ _ run;
      more = run_more _ _ _ _ run;
      complete = run_complete _ _ _ _ _ _ _ _ _ _ run;
      wrong = run_wrong _ _ _ _ _ _ _ _ _ _ run;
      raster_complete = run_raster _ _ _ _ _ _ _ _ _ _ run;
      raster_wrong = run_no_level _ _ _ _ _ _ _ _ _ _ run;
      raster_many = run_many _ _ _ _ _ _ _ _ _ _ run;
      made = run_made _ _ _ _ run;
    }

pub returns-clause-took : goal.returns-clause-took
returns-clause-took g c = c.respond.ensures.took

pub returns-clause-unread : goal.returns-clause-unread
returns-clause-unread g c = c.respond.ensures.unread

pub returns-clause-steps : goal.returns-clause-steps
returns-clause-steps g c = c.respond.ensures.steps
