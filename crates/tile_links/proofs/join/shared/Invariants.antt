use Rattle.std.proofs.Common.{◌≡◌, ◌++◌}
use Rattle.std.specs.Vec.Iter.{into_iter_items}
use Rattle.tile_links.proofs.join.shared.Given as goal

-- the tiles so far and those to come are all
abbrev pub invariant-loop-tile : goal.invariant-loop-tile
invariant-loop-tile l = l.shared.items ++ into_iter_items l.tile-iterator ≡ l.fn.tiles.items
