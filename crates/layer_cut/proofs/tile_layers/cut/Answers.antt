use Rattle.std.proofs.Common.{List, map, ap, ◌∙◌}
use Rattle.std.proofs.lemmas.Result.{IfOk-weaker}
use Rattle.nav_ground.specs.declared.cell.Cell.{Cell}
use Rattle.nav_ground.specs.Clearance.{kept_cells, cells_in}
use Rattle.nav_ground.specs.Layers.{layer_cell, wide_cells}
use Rattle.nav_ground.specs.Tiling.{margin_of, tile_window}
use Rattle.layer_cut.proofs.tile_layers.cut.Goals as goal

pub returns : goal.returns
returns c =
    let setting = c.args.setting.now in
    let cells = c.args.cells.now in
    let radius = setting.agent.radius in
    let tile = c.args.tile in
    IfOk-weaker c.close.result _ _
    (λ layer made. made ∙ c.in_ok-open.ensures
    ∙ ap (λ (cs : List Cell). record { tile = tile; cells = cs; radius = margin_of setting; wide = wide_cells setting cells tile })
    (c.in_ok-kept.ensures
    ∙ ap (λ (cs : List Cell). map (layer_cell (kept_cells cs radius)) (cells_in (tile_window setting tile) (kept_cells cs radius))) (c.as_slice.ensures ∙ c.get.ensures)))
    c.close.ensures
