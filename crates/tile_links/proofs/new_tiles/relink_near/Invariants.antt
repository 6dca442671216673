use Rattle.std.proofs.Common.{◌≡◌, ℕ, ◌<◌, true, false, get_or}
use Rattle.tile_links.specs.NearTiles.{IsMarkedAcross}
use Rattle.tile_links.specs.Relinked.{AreRelinked}
use Rattle.tile_links.proofs.new_tiles.relink_near.Given as goal

-- the links of the tile were made again, and those across the sides so far
abbrev pub invariant-loop-side : goal.invariant-loop-side
invariant-loop-side l = record {
  made : AreRelinked l.tiled.setting.now l.tiled.tiles.now l.changes.cross.now l.made.done.items l.made.cross;
  kept : (other : ℕ) → get_or l.fn.made.done.items other false ≡ true → get_or l.made.done.items other false ≡ true;
  own : get_or l.made.done.items l.tile false ≡ true;
  beside : (side : ℕ) → side < l.side → IsMarkedAcross l.tiled.setting.now l.made.done.items l.tile side;
}
