use Rattle.std.proofs.Common.{[], ◌∷◌, ◌++◌, ap, ◌∙◌, sym, subst, arith}
use Rattle.std.proofs.lemmas.List.{map_more, take_all}
use Rattle.nav_ground.specs.declared.cell.Layer.{Layer}
use Rattle.nav_ground.specs.Grounds.{IsLayerOf}
use Rattle.mesh_types.specs.Builds.{tile_mesh_of}
use Rattle.obstacle_mark.specs.Near.{KeepsRadius}
use Rattle.tile_build.specs.Meshes.{tiles_of}
use Rattle.tile_build.proofs.build.built.Goals as goal

pub build_kept_tile-requires-clause-layer : goal.build_kept_tile-requires-clause-layer
build_kept_tile-requires-clause-layer g c =
    subst (IsLayerOf c.args.setting.now) (sym c.layer-item.is) (c.requires.layers c.loop-layer.layer-index c.layer-item.result c.loop-layer-test.true)

pub build_kept_tile-requires-clause-kept : goal.build_kept_tile-requires-clause-kept
build_kept_tile-requires-clause-kept g c =
    subst KeepsRadius (sym c.layer-item.is) (c.requires.kept c.loop-layer.layer-index c.layer-item.result c.loop-layer-test.true)

pub returns-in_err-tile-clause-most : goal.returns-in_err-tile-clause-most
returns-in_err-tile-clause-most g c =
    record { least = omega (arith, c.build_kept_tile.ensures.step, c.loop-layer.invariant.steps); most_risen = omega (arith, c.build_kept_tile.ensures.step, c.loop-layer.invariant.steps, c.loop-layer-test.true) }

pub returns-in_err-new-clause-most : goal.returns-in_err-new-clause-most
returns-in_err-new-clause-most g c =
    record { least = omega (arith, c.build_kept_tile.ensures.step, c.loop-layer.invariant.steps); most_risen = omega (arith, c.build_kept_tile.ensures.step, c.loop-layer.invariant.steps, c.loop-layer-test.true) }

pub returns-in_err-push-clause-most : goal.returns-in_err-push-clause-most
returns-in_err-push-clause-most g c =
    record { least = omega (arith, c.build_kept_tile.ensures.step, c.loop-layer.invariant.steps); most_risen = omega (arith, c.build_kept_tile.ensures.step, c.loop-layer.invariant.steps, c.loop-layer-test.true) }

pub loop-layer-preserved : goal.loop-layer-preserved
loop-layer-preserved g c =
    let f = λ (layer : Layer). tile_mesh_of c.args.setting.now layer c.args.shapes.now in
    let made = c.in_ok-new.ensures.ok ∙ c.in_ok-tile.ensures.value ∙ ap f c.layer-item.is in
    record {
      tiles = c.in_ok-push.ensures.items ∙ (λ i. c.loop-layer.invariant.tiles i ++ made i ∷ [])
          ∙ sym (map_more f c.args.layers.now c.loop-layer.layer-index c.layer-item.result c.loop-layer-test.true);
      steps = omega (arith, c.build_kept_tile.ensures.step, c.loop-layer.invariant.steps);
    }

pub returns-clause-tiles : goal.returns-clause-tiles
returns-clause-tiles g c =
    c.loop-layer.invariant.tiles ∙ ap (tiles_of c.args.setting.now c.args.shapes.now) (take_all c.loop-layer.layer-index c.args.layers.now c.loop-layer-test.false)
