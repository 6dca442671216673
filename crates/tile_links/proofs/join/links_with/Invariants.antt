use Rattle.std.proofs.Common.{map, take}
use Rattle.std.specs.List.{flat_map}
use Rattle.nav_ground.specs.Directions.{number}
use Rattle.tile_links.specs.Loose.{loose_over, HasGained}
use Rattle.tile_links.proofs.join.links_with.Given as goal

-- the links that were known, and those over the sides so far
abbrev pub invariant-loop-side : goal.invariant-loop-side
invariant-loop-side l = HasGained l.fn.known.items (flat_map (loose_over l.tiled.setting.now l.tiled.tiles.now l.tile) (map number (take l.side-index l.sides))) l.links.items
