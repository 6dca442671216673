use Rattle.std.proofs.Common.{◌≡◌, ◌∙◌, ◌<◌, List, ap, sym, arith, length, get_or, refl}
use Rattle.nav_ground.specs.declared.cell.Layer.{Layer}
use Rattle.nav_ground.specs.Layers.{layer_of}
use Rattle.nav_ground.specs.Tiling.{tile_count}
use Rattle.nav_ground.proofs.LayerLaws.{layer_of_ground, length-layers_of_ground}
use Rattle.nav_handle.proofs.work.is_same_tile.Goals as goal

pub bounds-layers-tile : goal.bounds-layers-tile
bounds-layers-tile c = omega (arith, c.requires.there, ap length c.as_slice.ensures, length-layers_of_ground c.args.a.now c.requires.one)

pub bounds-layers-tile-2 : goal.bounds-layers-tile-2
bounds-layers-tile-2 c =
    omega (
      arith,
      c.requires.there,
      ap tile_count (c.if-not-is_same_setting.ensures.0 refl),
      ap length c.as_slice-2.ensures,
      length-layers_of_ground c.args.b.now c.requires.other,
    )

-- the layers that are compared are those of the tile
pub returns : goal.returns
returns c =
    let one = c.args.a.now in
    let other = c.args.b.now in
    let tile = c.args.tile in
    let same : one.setting ≡ other.setting = (c.if-not-is_same_setting.ensures.0 refl) in
    let there : tile < tile_count other.setting = omega (arith, c.requires.there, ap tile_count same) in
    let a = c.index-layers-tile.result in
    let b = c.index-layers-tile-2.result in
    let of_one : get_or c.as_slice.result.now tile a ≡ layer_of one.setting one.field tile =
    ap (λ (ls : List Layer). get_or ls tile a) c.as_slice.ensures ∙ layer_of_ground one tile a c.requires.one c.requires.there in
    let of_other : get_or c.as_slice-2.result.now tile b ≡ layer_of other.setting other.field tile =
    ap (λ (ls : List Layer). get_or ls tile b) c.as_slice-2.ensures ∙ layer_of_ground other tile b c.requires.other there in (
      λ holds. record { setting = same; layer = sym of_one ∙ c.is_same_layer.ensures.0 holds ∙ of_other },
      λ is. c.is_same_layer.ensures.1 (of_one ∙ is.layer ∙ sym of_other),
    )
