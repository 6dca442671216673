use Rattle.std.proofs.Common.{◌≡◌, take, map, filter}
use Rattle.nav_ground.specs.Clearance.{is_kept, kept_cells, cells_in}
use Rattle.nav_ground.specs.Layers.{layer_cell}
use Rattle.layer_cut.proofs.tile_layers.kept_in_tile.Given as goal

-- the kept cells of the tile so far
abbrev pub invariant-loop-i : goal.invariant-loop-i
invariant-loop-i l = l.kept.items
    ≡ map (layer_cell (kept_cells l.cells l.setting.agent.radius))
    (cells_in l.window (filter (is_kept l.cells l.setting.agent.radius) (take l.i l.cells)))
