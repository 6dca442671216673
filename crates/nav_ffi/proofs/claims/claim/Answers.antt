use Rattle.std.proofs.Common.{◌∙◌, ap}
use Rattle.build_queue.specs.declared.live.Job.{Job}
use Rattle.build_queue.specs.Steps.{after_claim, after_put_back}
use Rattle.nav_book.proofs.StepLaws.{is_given}
use Rattle.nav_handle.specs.Works.{Working}
use Rattle.obstacle_registry.specs.Claims.{with_level}
use Rattle.obstacle_registry.specs.Registry.{RegistryState}
use Rattle.nav_ffi.proofs.claims.claim.Goals as goal

-- it was claimed and put back
pub returns-in-Err-clause-refused : goal.returns-in-Err-clause-refused
returns-in-Err-clause-refused c =
    c.put_back.ensures.back
    ∙ ap (λ (s : RegistryState). with_level s (after_put_back s.book c.into_parts.result.0.tile)) c.in_ok-job.ensures.claimed
    ∙ ap (λ (j : Job). with_level c.args.held.now (after_put_back (after_claim c.args.held.now.book) j.tile))
    (c.into_parts.ensures.job ∙ ap (λ (w : Working). w.job) (c.in-Err.ensures.value_returned ∙ c.of.ensures))
    ∙ ap (with_level c.args.held.now) (is_given c.args.held.now.book c.in_ok-job.field-0 c.in-Some.job c.in_ok-job.ensures.job c.in-Some.is).back
