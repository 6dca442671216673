use Rattle.std.proofs.Common.{◌≡◌, ℕ, ◌<◌, ◌-◌, ◌∙◌, ap, map, subst, arith}
use Rattle.std.specs.Prelude.{IfOk}
use Rattle.std.specs.List.{range_with_len}
use Rattle.nav_ground.specs.Limits.{IsSetting}
use Rattle.nav_ground.specs.Fields.{IsField}
use Rattle.nav_ground.specs.Grounds.{IsSized}
use Rattle.nav_ground.specs.Layers.{layer_of, layers_of}
use Rattle.nav_ground.specs.Tiling.{tile_count}
use Rattle.rayon.specs.Numbers.{nat_range}
use Rattle.rayon.proofs.ToStd.{nat_range-All}
use Rattle.parallel_build.proofs.InOrder.{all_made}
use Rattle.parallel_build.proofs.layers.layers_by.Goals as goal

pub collect-requires-clause-ready : goal.collect-requires-clause-ready
collect-requires-clause-ready g c κs bounds =
    let setting = c.args.setting.now in
    let field = c.args.field.now in
    let ends = c.into_par_iter.ensures in
    let inside = nat_range-All (λ tile. IsSetting setting × IsField field × IsSized setting field × (tile < tile_count setting)) 0 (tile_count setting)
    (λ tile low high. (c.requires.setting, c.requires.field, c.requires.sized, high)) in
    rw (c.map.ensures.base, c.map.ensures.f, c.with_min_len.ensures.base, ends.0, ends.1, c.tiles.ensures) (λ k d there. (inside k d there, λ y made. tt))

pub returns : goal.returns
unfolding layers_of
returns g c =
    let setting = c.args.setting.now in
    let ends = c.into_par_iter.ensures in
    let count = tile_count setting in
    let whole : count - 0 ≡ count = omega arith in
    let h = c.in_ok-layers.ensures in
    let chain = rw (c.map.ensures.base, c.map.ensures.f, c.with_min_len.ensures.base) at h.1 in
    let tiles = chain.1 ∙ (λ i. nat_range (ends.0 i) ((ends.1 ∙ c.tiles.ensures) i)) ∙ ap (range_with_len 0) whole in
    subst (λ tiles. IfOk c.in_ok-layers.layers (λ layers. layers.items ≡ map (layer_of setting c.args.field.now) tiles)) tiles
    (all_made (layer_of setting c.args.field.now) chain.0 h.0 (λ v. v.items) c.in_ok-layers.layers chain.2 h.2)
