use Rattle.std.proofs.Common.{◌≡◌, length}
use Rattle.build_queue.specs.BookState.{IsBook}
use Rattle.nav_book.specs.Settling.{IsUnclaimed, all_built, awaited_tiles}
use Rattle.agent_kinds.specs.Kinds.{IsShownAsBefore}
use Rattle.agent_kinds.proofs.builds.build_level.Given as goal

-- what is left to build leads to the same state
abbrev pub invariant-loop-tile : goal.invariant-loop-tile
invariant-loop-tile g l = record {
  free : IsUnclaimed l.level;
  rules : IsBook l.level;
  left : all_built l.level ≡ all_built l.fn.level;
  shown : IsShownAsBefore l.fn.level l.level;
}

abbrev pub decreases-loop-tile : goal.decreases-loop-tile
decreases-loop-tile g l = length (awaited_tiles l.level)
