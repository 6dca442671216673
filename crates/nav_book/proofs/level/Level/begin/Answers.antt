use Rattle.std.proofs.Common.{[], ◌∙◌, ap, length, rules, subst, sym}
use Rattle.std.specs.Prelude.{replicate, None}
use Rattle.std.proofs.lemmas.List.Elements.{All-nil}
use Rattle.std.specs.Arc.{arc_value}
use Rattle.nav_ground.specs.declared.history.Ground.{Ground}
use Rattle.nav_ground.specs.Limits.{IsShape}
use Rattle.mesh_types.specs.Soundness.{IsSound}
use Rattle.mesh_types.specs.WholeMesh.{mesh_of}
use Rattle.nav_book.proofs.GroundTiles.{are_tiles, length-tiles_under}
use Rattle.nav_book.proofs.KeptTiles.{kept_first}
use Rattle.nav_book.proofs.level.Level.begin.Goals as goal

pub joined-requires-clause-tiles : goal.joined-requires-clause-tiles
joined-requires-clause-tiles c =
    rw (c.deref.ensures, c.requires.tiles) (are_tiles (arc_value c.args.level) [] c.requires.level (All-nil IsShape))

pub invariant_of-result : goal.invariant_of-result
invariant_of-result c =
    let ground : Ground = arc_value c.args.level in
    record {
      tiles = kept_first ground c.in_ok-queue.queue c.in_ok-fresh.fresh c.new-3.result c.in_ok-queue.ensures.state c.in_ok-queue.ensures.rules c.requires.level
          (c.in_ok-fresh.ensures ∙ ap (λ n. replicate n None) (c.len.ensures ∙ ap length c.requires.tiles ∙ length-tiles_under ground [] c.requires.level))
          (c.new-3.ensures ∙ c.in_ok-shared.ensures.ok ∙ c.in_ok-mesh.ensures.mesh ∙ ap (λ (w : Ground). mesh_of w.setting c.args.tiles) c.deref.ensures
          ∙ ap (mesh_of ground.setting) c.requires.tiles)
          (subst IsSound (sym (c.new-3.ensures ∙ c.in_ok-shared.ensures.ok)) c.in_ok-mesh.ensures.sound);
      builds = search rules;
    }
