use Rattle.std.proofs.Common.{◌≡◌, ◌∙◌, ap}
use Rattle.std.proofs.lemmas.Result.{IfOk-weaker}
use Rattle.mesh_types.specs.StripMeshes.{strip_mesh_of}
use Rattle.strip_mesh.proofs.build.strip_mesh.Goals as goal

pub returns-clause-value : goal.returns-clause-value
returns-clause-value c =
    IfOk-weaker c.strip_mesh_over.result _ (λ tile. tile ≡ strip_mesh_of c.args.setting.now c.args.free.now)
    (λ tile is. is ∙ ap (strip_mesh_of c.args.setting.now) c.in_ok-free.ensures) c.strip_mesh_over.ensures.value
