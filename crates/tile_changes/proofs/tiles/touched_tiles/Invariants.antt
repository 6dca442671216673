use Rattle.std.specs.Prelude.{◌≡◌, filter}
use Rattle.std.specs.List.{range_with_len}
use Rattle.tile_changes.specs.Telling.{is_touched}
use Rattle.tile_changes.proofs.tiles.touched_tiles.Given as goal

-- of the tiles so far those that a shape touches
abbrev pub invariant-loop-tile : goal.invariant-loop-tile
invariant-loop-tile l = l.list.items ≡ filter (is_touched l.setting l.shapes) (range_with_len 0 l.tile)
