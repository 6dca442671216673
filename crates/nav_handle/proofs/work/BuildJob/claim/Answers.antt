use Rattle.std.proofs.Common.{◌∙◌, ap}
use Rattle.build_queue.specs.BookState.{BookState}
use Rattle.build_queue.specs.Steps.{after_claim, after_put_back}
use Rattle.nav_book.proofs.StepLaws.{is_given}
use Rattle.nav_handle.specs.Works.{Working}
use Rattle.nav_handle.proofs.work.BuildJob.claim.Goals as goal

-- it was claimed and put back
pub returns-in-Err-clause-refused : goal.returns-in-Err-clause-refused
returns-in-Err-clause-refused c =
    c.put_back.ensures.back ∙ ap (λ (s : BookState). after_put_back s c.refused.inside.0.0.job.tile) c.in_ok-job.ensures.claimed
    ∙ ap (λ (w : Working). after_put_back (after_claim c.args.level.now) w.job.tile) ((λ i. (c.refused.view_is i).value) ∙ c.in-Err.ensures.value_returned)
    ∙ (is_given c.args.level.now c.in_ok-job.field-0 c.in-Some.job c.in_ok-job.ensures.job c.in-Some.is).back
