use Rattle.std.proofs.Common.{◌≡◌, ◌+◌}
use Rattle.nav_book.specs.GroundChanges.{AreBuiltIn}
use Rattle.nav_book.proofs.next_ground.tiles_over.Given as goal

-- the tiles so far are built, with one step each
abbrev pub invariant-loop-tile : goal.invariant-loop-tile
invariant-loop-tile g l = record {
  built : AreBuiltIn l.ground l.queue.stored l.changed l.tile-index l.news;
  steps : l.steps ≡ l.initial.steps + l.tile-index;
}
