use Rattle.std.proofs.Common.{◌≡◌, take, map, filter}
use Rattle.std.specs.List.{range_with_len}
use Rattle.nav_ground.specs.Clearance.{is_kept, kept_cells}
use Rattle.nav_ground.specs.Tiling.{tile_count}
use Rattle.layer_cut.specs.Tiles.{layer_with}
use Rattle.layer_cut.proofs.tile_layers.handed_out.Given as goal

-- the layers with the kept cells so far
abbrev pub invariant-loop-i : goal.invariant-loop-i
invariant-loop-i l = l.layers.items
    ≡ map (layer_with l.setting l.cells (kept_cells l.cells l.setting.agent.radius) (filter (is_kept l.cells l.setting.agent.radius) (take l.i l.cells)))
    (range_with_len 0 (tile_count l.setting))
