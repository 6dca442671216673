use Rattle.std.proofs.Common.{◌∙◌, ap, subst, sym}
use Rattle.nav_ground.specs.declared.history.Ground.{Ground}
use Rattle.build_queue.specs.Steps.{IsJob}
use Rattle.nav_book.specs.Results.{tile_under}
use Rattle.nav_book.proofs.book.Book.build.Goals as goal

pub build_job-requires-clause-job : goal.build_job-requires-clause-job
build_job-requires-clause-job g c =
    let ground = c.ground.ensures.value ∙ ap (λ v. v.state.ground) c.self.view_is in
    subst (λ (ground : Ground). IsJob ground.setting c.args.job) (sym ground) c.requires.job

pub returns-clause-made : goal.returns-clause-made
returns-clause-made g c =
    let ground = c.ground.ensures.value ∙ ap (λ v. v.state.ground) c.self.view_is in
    record {
      there = c.requires.job.there;
      mesh = c.in_ok-mesh.ensures.mesh ∙ ap (λ (ground : Ground). tile_under ground c.args.job.tile c.args.job.shapes) ground;
    }
