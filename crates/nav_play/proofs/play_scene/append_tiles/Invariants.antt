use Rattle.std.proofs.Common.{◌≡◌, ◌++◌, drop}
use Rattle.std.specs.List.{flat_map, range_with_len}
use Rattle.nav_ground.specs.Tiling.{tile_count}
use Rattle.nav_play.specs.Scenes.{StandsInFront, tile_text, tiles_text}
use Rattle.nav_play.proofs.play_scene.append_tiles.Given as goal

-- what is written so far and the lines of the tiles left are the whole, and what stood there stands in front
abbrev pub invariant-loop-tile : goal.invariant-loop-tile
invariant-loop-tile l =
    (l.out.items ++ flat_map (tile_text l.setting) (drop l.tile (range_with_len 0 (tile_count l.setting))) ≡ l.fn.out.items ++ tiles_text l.setting)
    × StandsInFront l.fn.out.items l.out.items
