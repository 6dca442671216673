use Rattle.std.proofs.Common.{◌≡◌, ◌<◌, ◌∙◌, ap, subst}
use Rattle.nav_ground.specs.declared.history.Ground.{Ground}
use Rattle.nav_ground.specs.Tiling.{tile_count}
use Rattle.mesh_types.specs.declared.mesh.TileMesh.{TileMesh}
use Rattle.build_queue.specs.declared.live.Job.{Job}
use Rattle.build_queue.specs.Steps.{IsJob}
use Rattle.nav_book.specs.Results.{tile_under}
use Rattle.nav_live.specs.ActRules.{IsMade}
use Rattle.nav_live.specs.Roots.{RootView}
use Rattle.nav_live.proofs.builds.build.Goals as goal

-- what a job asks for is a build of the lock's ground
is_made : (root : RootView) (level : Ground) (job : Job) (mesh : TileMesh) → level ≡ root.ground → IsJob level.setting job → mesh ≡ tile_under level job.tile job.shapes
    → IsMade root (record { tile = job.tile; shapes = job.shapes; mesh = mesh })
is_made root level job mesh same fits is = record {
  build = record {
    there = subst (λ (ground : Ground). job.tile < tile_count ground.setting) same fits.there;
    mesh = is ∙ ap (λ (ground : Ground). tile_under ground job.tile job.shapes) same;
  };
  limits = fits.limits;
}

pub submit-requires-clause-made : goal.submit-requires-clause-made
submit-requires-clause-made g c =
    is_made c.args.context.now.lock.now.root c.args.context.now.ground.now c.args.held c.in-Ok.mesh c.requires.context.level c.requires.job
    (subst (λ (job : Job). c.in-Ok.mesh ≡ tile_under c.args.context.now.ground.now job.tile job.shapes) c.job.ensures c.in-Ok.ensures.mesh)
