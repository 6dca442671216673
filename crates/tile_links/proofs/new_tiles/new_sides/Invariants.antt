use Rattle.std.proofs.Common.{◌≡◌, map}
use Rattle.std.specs.List.{filter, range_with_len}
use Rattle.nav_ground.specs.Directions.{number}
use Rattle.tile_links.specs.NewTiles.{is_new_across}
use Rattle.tile_links.proofs.new_tiles.new_sides.Given as goal

-- those of the sides so far across which something is new
abbrev pub invariant-loop-beside : goal.invariant-loop-beside
invariant-loop-beside l = map number l.sides.items ≡ filter (is_new_across l.setting l.news l.tile) (range_with_len 0 l.beside)
