use Rattle.std.proofs.Common.{ap, subst, ◌∙◌}
use Rattle.std.specs.Prelude.{IfOk}
use Rattle.mesh_types.specs.declared.mesh.Mesh.{Mesh}
use Rattle.path_queries.specs.FloodsBack.{IsRightFloodBack}
use Rattle.nav_handle.specs.Views.{Seen}
use Rattle.nav_handle.proofs.view.MeshView.flood_back.Goals as goal

pub returns-clause-right : goal.returns-clause-right
returns-clause-right c =
    subst (λ (mesh : Mesh). IfOk c.flood_back_in.result (λ answer. IsRightFloodBack c.args.query.now mesh answer))
    (c.get.ensures ∙ ap (λ (seen : Seen). seen.mesh) c.self.view_is) c.flood_back_in.ensures.right
