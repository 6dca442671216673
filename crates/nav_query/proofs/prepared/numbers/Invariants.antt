use Rattle.std.proofs.Common.{◌≡◌, map, take}
use Rattle.tile_links.specs.NewTiles.{New}
use Rattle.nav_query.proofs.prepared.numbers.Given as goal

-- the numbers of the tiles so far
abbrev pub invariant-loop-new : goal.invariant-loop-new
invariant-loop-new l = l.tiles.items ≡ map (λ (new : New). new.0) (take l.new-index l.news)
