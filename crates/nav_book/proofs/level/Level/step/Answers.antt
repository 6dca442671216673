use Rattle.std.proofs.Common.{◌∙◌, ap, arith}
use Rattle.build_queue.specs.BookState.{BookState}
use Rattle.build_queue.specs.Steps.{after_put_back, after_submit}
use Rattle.nav_book.proofs.StepLaws.{is_given, is_idle}
use Rattle.nav_book.proofs.level.Level.step.Goals as goal

-- no tile can be claimed
pub returns-in_default-clause-tile : goal.returns-in_default-clause-tile
returns-in_default-clause-tile g c = (is_idle c.args.self.now c.in_ok-job.field-0 c.in_ok-job.ensures.job c.in_default.is).none

pub returns-in_default-clause-stepped : goal.returns-in_default-clause-stepped
returns-in_default-clause-stepped g c =
    c.in_ok-job.ensures.claimed ∙ (is_idle c.args.self.now c.in_ok-job.field-0 c.in_ok-job.ensures.job c.in_default.is).same

pub returns-in_default-clause-steps : goal.returns-in_default-clause-steps
returns-in_default-clause-steps g c =
    let idle = is_idle c.args.self.now c.in_ok-job.field-0 c.in_ok-job.ensures.job c.in_default.is in
    omega (arith, idle.due)

-- a tile is claimed and taken in
pub returns-in-Ok-clause-tile : goal.returns-in-Ok-clause-tile
returns-in-Ok-clause-tile g c = (is_given c.args.self.now c.in_ok-job.field-0 c.in-Some.job c.in_ok-job.ensures.job c.in-Some.is).tile

pub returns-in-Ok-clause-stepped : goal.returns-in-Ok-clause-stepped
returns-in-Ok-clause-stepped g c =
    c.submit.ensures.stored ∙ ap (λ (s : BookState). after_submit s c.in-Some.job.tile c.in-Some.job.shapes) (c.in-Ok.ensures.same ∙ c.in_ok-job.ensures.claimed)
    ∙ (is_given c.args.self.now c.in_ok-job.field-0 c.in-Some.job c.in_ok-job.ensures.job c.in-Some.is).taken

pub returns-in-Ok-clause-steps : goal.returns-in-Ok-clause-steps
returns-in-Ok-clause-steps g c =
    let given = is_given c.args.self.now c.in_ok-job.field-0 c.in-Some.job c.in_ok-job.ensures.job c.in-Some.is in
    let built = c.in-Ok.ensures.step in
    omega (arith, built, given.due)

pub returns-in-Ok-clause-most : goal.returns-in-Ok-clause-most
returns-in-Ok-clause-most g c =
    let given = is_given c.args.self.now c.in_ok-job.field-0 c.in-Some.job c.in_ok-job.ensures.job c.in-Some.is in
    let built = c.in-Ok.ensures.step in
    record { least = omega (arith, built); most_risen = omega (arith, built, given.due) }

-- it is claimed and put back
pub returns-in-Err-clause-most : goal.returns-in-Err-clause-most
returns-in-Err-clause-most g c =
    let given = is_given c.args.self.now c.in_ok-job.field-0 c.in-Some.job c.in_ok-job.ensures.job c.in-Some.is in
    let built = c.in-Err.ensures.step in
    record { least = omega (arith, built); most_risen = omega (arith, built, given.due) }

pub returns-in-Err-clause-refused : goal.returns-in-Err-clause-refused
returns-in-Err-clause-refused g c =
    c.put_back.ensures.back ∙ ap (λ (s : BookState). after_put_back s c.in-Some.job.tile) (c.in-Err.ensures.same ∙ c.in_ok-job.ensures.claimed)
    ∙ (is_given c.args.self.now c.in_ok-job.field-0 c.in-Some.job c.in_ok-job.ensures.job c.in-Some.is).back
