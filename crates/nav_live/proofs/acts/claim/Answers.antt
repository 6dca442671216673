use Rattle.std.proofs.Common.{◌∙◌, rules, subst, sym}
use Rattle.std.specs.Prelude.{IfSome, Option}
use Rattle.build_queue.specs.declared.live.Job.{Job}
use Rattle.build_queue.specs.Steps.{IsJob}
use Rattle.nav_live.proofs.JobLaws.{is_job_of}
use Rattle.nav_live.proofs.acts.claim.Goals as goal

pub returns-in-Ok-Some-clause-steps : goal.returns-in-Ok-Some-clause-steps
returns-in-Ok-Some-clause-steps c = search rules

pub returns-in-Ok-Some-clause-asks : goal.returns-in-Ok-Some-clause-asks
returns-in-Ok-Some-clause-asks c =
    let did = c.in-Ok-Some.ensures.did in
    let is = c.in-Ok-Some.field-0-is in
    is_job_of c.args.book.now c.claim.new.self.state c.in-Ok-Some.job (sym is ∙ did.job)
    (subst (λ (told : Option Job). IfSome told (IsJob c.args.book.now.state.ground.setting)) is did.fit) did.claimed did.rules c.requires
