use Rattle.std.proofs.Common.{subst, sym}
use Rattle.std.specs.Prelude.{IfSome, Option}
use Rattle.nav_ground.specs.declared.history.Ground.{Ground}
use Rattle.build_queue.specs.declared.live.Job.{Job}
use Rattle.build_queue.specs.Steps.{IsJob}
use Rattle.nav_live.specs.ActRules.{IsJobOf}
use Rattle.nav_live.proofs.builds.build_next.Goals as goal

pub build-requires-clause-job : goal.build-requires-clause-job
build-requires-clause-job g c =
    let asked = subst (λ (told : Option Job). IfSome told (IsJobOf c.args.context.now.lock.now.root c.claim.new.pass.seen)) c.in-Some.is c.in_ok-held.ensures.job in
    subst (λ (level : Ground). IsJob level.setting c.in-Some.held) (sym c.requires.context.level) asked.fit
