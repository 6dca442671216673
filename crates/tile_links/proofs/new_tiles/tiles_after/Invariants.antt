use Rattle.std.proofs.Common.{◌≡◌, take}
use Rattle.tile_links.specs.NewTiles.{tiles_after}
use Rattle.tile_links.proofs.new_tiles.tiles_after.Given as goal

-- the tiles with the new ones so far in place
abbrev pub invariant-loop-new : goal.invariant-loop-new
invariant-loop-new l = l.after ≡ tiles_after (take l.new-index l.news) l.tiles
