use Rattle.std.proofs.Common.{◌≡◌, subst, sym}
use Rattle.std.proofs.lemmas.Result.{IfOk-weaker}
use Rattle.nav_ground.specs.declared.cell.Layer.{Layer}
use Rattle.nav_ground.specs.Grounds.{IsLayerOf, IsWideWithin}
use Rattle.nav_ground.specs.Layers.{layer_of}
use Rattle.layer_cut.proofs.NearbyField.{field_in_rules, field_in_sized}
use Rattle.layer_cut.proofs.NearbyLayer.{layer_from_near}
use Rattle.layer_cut.proofs.FieldCells.{layer_rules_of, layer_within}
use Rattle.layer_cut.proofs.cut.layer.Goals as goal

pub layer_from-requires-clause-field : goal.layer_from-requires-clause-field
layer_from-requires-clause-field c = field_in_rules _ c.args.field.now c.in_ok-near.near c.requires.field c.in_ok-near.ensures

pub layer_from-requires-clause-sized : goal.layer_from-requires-clause-sized
layer_from-requires-clause-sized c = field_in_sized _ c.args.setting.now c.args.field.now c.in_ok-near.near c.requires.sized c.in_ok-near.ensures

pub returns-clause-value : goal.returns-clause-value
returns-clause-value c =
    IfOk-weaker c.layer_from.result (λ (layer : Layer). layer ≡ layer_of c.args.setting.now c.in_ok-near.near c.args.tile)
    (λ (layer : Layer). layer ≡ layer_of c.args.setting.now c.args.field.now c.args.tile)
    (λ layer made. layer_from_near c.args.setting.now c.args.field.now c.in_ok-near.near c.tile_bounds-window.result c.args.tile layer
    c.requires.setting c.requires.field c.tile_bounds-window.ensures c.in_ok-near.ensures made)
    c.layer_from.ensures

pub returns-clause-rules : goal.returns-clause-rules
returns-clause-rules c =
    IfOk-weaker c.layer_from.result (λ (layer : Layer). layer ≡ layer_of c.args.setting.now c.in_ok-near.near c.args.tile)
    (IsLayerOf c.args.setting.now)
    (λ layer made. layer_rules_of c.args.setting.now c.in_ok-near.near c.args.tile layer c.requires.setting
    (field_in_rules _ c.args.field.now c.in_ok-near.near c.requires.field c.in_ok-near.ensures) c.requires.there made)
    c.layer_from.ensures

pub returns-clause-wide : goal.returns-clause-wide
returns-clause-wide c =
    IfOk-weaker c.layer_from.result (λ (layer : Layer). layer ≡ layer_of c.args.setting.now c.in_ok-near.near c.args.tile)
    (IsWideWithin c.args.setting.now)
    (λ layer made. subst (IsWideWithin c.args.setting.now) (sym made) (layer_within c.args.setting.now c.in_ok-near.near c.args.tile))
    c.layer_from.ensures
