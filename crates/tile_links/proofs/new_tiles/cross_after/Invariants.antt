use Rattle.std.proofs.Common.{take}
use Rattle.std.specs.Prelude.{All}
use Rattle.tile_links.specs.NearTiles.{IsMarked}
use Rattle.tile_links.specs.NewTiles.{New}
use Rattle.tile_links.specs.Relinked.{AreRelinked}
use Rattle.tile_links.proofs.new_tiles.cross_after.Given as goal

-- the links near the new tiles so far were made again
abbrev pub invariant-loop-new : goal.invariant-loop-new
invariant-loop-new l = record {
  made : AreRelinked l.tiled.setting.now l.tiled.tiles.now l.changes.cross.now l.made.done.items l.made.cross;
  marked : All (λ (new : New). IsMarked l.tiled.setting.now l.made.done.items new.0) (take l.new-index l.news);
}
