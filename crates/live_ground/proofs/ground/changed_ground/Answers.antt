use Rattle.std.proofs.Common.{◌≡◌, ◌∙◌, ap, sym, ◌∷◌, ◌++◌, [], arith}
use Rattle.std.proofs.lemmas.List.FromFn.{map-range_with_len_more}
use Rattle.nav_ground.specs.declared.history.Ground.{Ground}
use Rattle.nav_ground.specs.Layers.{layer_of, layers_of}
use Rattle.nav_ground.specs.Tiling.{tile_count}
use Rattle.live_ground.proofs.Unreached.{layers_made, ground_made, slot_unreached}
use Rattle.live_ground.proofs.ground.changed_ground.Goals as goal

pub loop-tile-preserved : goal.loop-tile-preserved
loop-tile-preserved c =
    let f = layer_of c.args.old.now.setting c.field-field.result.now in
    c.in_ok-push.ensures.items
    ∙ (λ i. c.loop-tile.invariant i ++ c.in_ok-changed_layer.ensures i ∷ [])
    ∙ sym (map-range_with_len_more f 0 c.loop-tile.tile c.loop-tile.tile (omega arith))

-- all layers stand
layers_are : (c : goal.After-from_vec) → c.from_vec.result ≡ layers_of c.args.old.now.setting c.args.field.now
layers_are c =
    let all : c.loop-tile.tile ≡ tile_count c.args.old.now.setting = omega (arith, c.tiles-count.ensures, c.loop-tile-test.false, c.loop-tile.auto.tile-end) in
    c.from_vec.ensures
    ∙ layers_made c.args.old.now.setting c.field-field.result.now c.loop-tile.layers.items c.loop-tile.tile c.loop-tile.invariant all
    ∙ ap (layers_of c.args.old.now.setting) c.field-field.ensures.value

made : (c : goal.After-from_vec)
    → ◌≡◌ {A = Ground} (record { setting = c.args.old.now.setting; field = c.of.result; layers = c.from_vec.result })
    (record { setting = c.args.old.now.setting; field = c.args.field.now; layers = layers_of c.args.old.now.setting c.args.field.now })
made c =
    let field = c.of.ensures ∙ c.field-field.ensures.value in
    λ i. record { setting = c.args.old.now.setting; field = field i; layers = layers_are c i }

pub returns-clause-value : goal.returns-clause-value
returns-clause-value c = made c

pub returns-clause-rules : goal.returns-clause-rules
returns-clause-rules c =
    ground_made c.args.old.now.setting c.args.field.now _ c.args.old.now.field c.args.window
    c.requires.ground.setting c.requires.ground.sized c.field-field.ensures.rules c.requires.same (made c)

pub returns-clause-unreached : goal.returns-clause-unreached
returns-clause-unreached c = λ tile there away.
    slot_unreached c.args.old.now.setting c.args.window c.args.old.now.field c.args.field.now
    c.args.old.now.layers c.from_vec.result tile c.requires.ground.setting c.requires.ground.field c.field-field.ensures.rules c.requires.same c.requires.ground.layers (layers_are c)
    there away
