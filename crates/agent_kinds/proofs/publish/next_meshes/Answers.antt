use Rattle.std.proofs.Common.{List, [], ◌∷◌, ◌++◌, ap, ◌∙◌, sym, subst}
use Rattle.std.specs.Prelude.{All}
use Rattle.std.proofs.lemmas.List.{map_more}
use Rattle.std.proofs.lemmas.List.Elements.{All-push}
use Rattle.mesh_types.specs.declared.mesh.Mesh.{Mesh}
use Rattle.mesh_types.specs.Soundness.{IsSound}
use Rattle.nav_book.specs.LevelResults.{target_mesh}
use Rattle.agent_kinds.proofs.publish.next_meshes.Goals as goal

pub loop-level-preserved : goal.loop-level-preserved
loop-level-preserved c =
    let made = c.in_ok-mesh.ensures.mesh ∙ ap target_mesh c.level-item.is in
    record {
      made = c.in_ok-push.ensures.items ∙ (λ i. c.loop-level.invariant.made i ++ made i ∷ [])
          ∙ sym (map_more target_mesh c.args.levels.now c.loop-level.level-index c.level-item.result c.loop-level-test.true);
      sound = subst (λ (list : List Mesh). All IsSound list) (sym c.in_ok-push.ensures.items)
          (All-push IsSound c.loop-level.meshes.items c.in_ok-mesh.mesh c.loop-level.invariant.sound c.in_ok-mesh.ensures.sound);
    }
