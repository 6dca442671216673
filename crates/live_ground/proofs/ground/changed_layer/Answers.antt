use Rattle.std.proofs.Common.{◌≡◌, ◌∙◌, ap, sym, length, List, get_or, arith}
use Rattle.std.proofs.lemmas.Result.{IfOk-weaker}
use Rattle.nav_ground.specs.declared.cell.Layer.{Layer}
use Rattle.nav_ground.specs.Layers.{layer_of}
use Rattle.nav_ground.proofs.LayerLaws.{length-layers_of_ground}
use Rattle.live_ground.proofs.Unreached.{kept_layer}
use Rattle.live_ground.proofs.ground.changed_layer.Goals as goal

pub bounds-as_slice-tile : goal.bounds-as_slice-tile
bounds-as_slice-tile c =
    omega (arith, ap length c.as_slice.ensures, length-layers_of_ground c.args.old.now c.requires.ground, c.requires.there)

pub returns-else-is_in_reach : goal.returns-else-is_in_reach
returns-else-is_in_reach c =
    let layer = c.index-as_slice-tile.result in
    IfOk-weaker c.duplicate.result (λ (copy : Layer). copy ≡ layer) (λ (made : Layer). made ≡ layer_of c.args.old.now.setting c.args.field.now c.args.tile)
    (λ copy same. same
    ∙ kept_layer c.args.old.now.setting c.args.window c.args.old.now.field c.args.field.now c.args.old.now.layers
    c.args.tile layer c.requires.ground.setting c.requires.ground.field c.requires.rules c.requires.same c.requires.ground.layers c.requires.there
    (sym c.is_in_reach.ensures ∙ c.if-is_in_reach.false)
    (c.index-as_slice-tile.is ∙ ap (λ (list : List Layer). get_or list c.args.tile layer) c.as_slice.ensures))
    c.duplicate.ensures
