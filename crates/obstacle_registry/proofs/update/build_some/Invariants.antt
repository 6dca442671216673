use Rattle.std.proofs.Common.{◌≡◌}
use Rattle.build_queue.specs.BookState.{IsBook}
use Rattle.obstacle_registry.specs.Updates.{stepped_up_to, tiles_built}
use Rattle.obstacle_registry.proofs.update.build_some.Given as goal

-- each step so far built a tile
abbrev pub invariant-loop-built : goal.invariant-loop-built
invariant-loop-built g l = record {
  state : l.level ≡ stepped_up_to l.built l.fn.level;
  count : tiles_built l.built l.fn.level ≡ l.built;
  rules : IsBook l.level;
}
