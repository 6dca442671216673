use Rattle.std.proofs.Common.{List, map, ap, ◌∙◌}
use Rattle.std.specs.List.{range_with_len}
use Rattle.std.proofs.lemmas.Result.{IfOk-weaker}
use Rattle.nav_ground.specs.declared.cell.Cell.{Cell}
use Rattle.nav_ground.specs.Clearance.{kept_cells}
use Rattle.nav_ground.specs.Layers.{layer_among}
use Rattle.nav_ground.specs.Tiling.{tile_count}
use Rattle.layer_cut.proofs.tile_layers.hand_out.Goals as goal

pub returns : goal.returns
returns c =
    let setting = c.args.setting.now in
    IfOk-weaker c.handed_out.result _ _
    (λ layers made. made
    ∙ ap (λ (cs : List Cell). map (layer_among setting cs (kept_cells cs setting.agent.radius)) (range_with_len 0 (tile_count setting))) (c.as_slice.ensures ∙ c.get.ensures))
    c.handed_out.ensures
