use Rattle.std.proofs.Common.{◌≡◌, List, [], map}
use Rattle.std.specs.List.{range_with_len}
use Rattle.nav_ground.specs.declared.cell.Cell.{Cell}
use Rattle.layer_cut.specs.Tiles.{layer_with}
use Rattle.layer_cut.proofs.tile_layers.empty_layers.Given as goal

-- the layers so far
abbrev pub invariant-loop-tile : goal.invariant-loop-tile
invariant-loop-tile l = (kept : List Cell) → l.layers.items ≡ map (layer_with l.setting l.cells kept []) (range_with_len 0 l.tile)
