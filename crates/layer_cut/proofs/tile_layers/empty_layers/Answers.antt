use Rattle.std.proofs.Common.{◌≡◌, ◌∙◌, ap, arith, List, [], map}
use Rattle.std.specs.List.{range_with_len}
use Rattle.nav_ground.specs.declared.cell.Cell.{Cell}
use Rattle.nav_ground.specs.Layers.{wide_cells}
use Rattle.nav_ground.specs.Tiling.{tile_count, margin_of}
use Rattle.layer_cut.specs.Tiles.{layer_with}
use Rattle.layer_cut.proofs.HandedOut.{none_handed}
use Rattle.layer_cut.proofs.tile_layers.empty_layers.Goals as goal

pub loop-tile-preserved : goal.loop-tile-preserved
loop-tile-preserved c = λ kept.
    c.in_ok-push.ensures.items
    ∙ none_handed c.args.setting.now c.args.cells.now kept c.loop-tile.layers.items c.loop-tile.tile c.in_ok-layer.layer (c.loop-tile.invariant kept)
    (c.in_ok-layer.ensures ∙ ap (λ (cs : List Cell). record { tile = c.loop-tile.tile; cells = cs; radius = margin_of c.args.setting.now; wide = wide_cells c.args.setting.now c.args.cells.now c.loop-tile.tile }) c.new.ensures.items)

pub returns : goal.returns
returns c = λ kept.
    let all : c.loop-tile.tile ≡ tile_count c.args.setting.now = omega (arith, c.tiles-count.ensures) in
    c.loop-tile.invariant kept ∙ ap (λ n. map (layer_with c.args.setting.now c.args.cells.now kept []) (range_with_len 0 n)) all
