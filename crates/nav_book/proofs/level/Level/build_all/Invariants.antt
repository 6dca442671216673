use Rattle.std.proofs.Common.{◌≡◌, ◌+◌, ◌≤◌, length}
use Rattle.build_queue.specs.BookState.{IsBook}
use Rattle.nav_book.specs.Settling.{IsUnclaimed, all_built, awaited_tiles}
use Rattle.nav_book.proofs.level.Level.build_all.Given as goal

-- what is left to build leads to the same book, and its steps to the same count
abbrev pub invariant-loop-tile : goal.invariant-loop-tile
invariant-loop-tile g l = record {
  free : IsUnclaimed l.self;
  rules : IsBook l.self;
  left : all_built l.self ≡ all_built l.fn.self;
  count : l.steps + length (awaited_tiles l.self) ≡ l.fn.steps + length (awaited_tiles l.fn.self);
  ground : l.self.ground ≡ l.fn.self.ground;
  history : l.self.history ≡ l.fn.self.history;
  published : l.self.published ≡ l.fn.self.published;
  least : l.fn.steps ≤ l.steps;
}

abbrev pub decreases-loop-tile : goal.decreases-loop-tile
decreases-loop-tile g l = length (awaited_tiles l.self)
