use Rattle.std.proofs.Common.{◌≡◌, length}
use Rattle.build_queue.specs.BookState.{IsBook}
use Rattle.obstacle_registry.specs.Registry.{alive_now}
use Rattle.obstacle_registry.proofs.Requests.{AreTakenDown}
use Rattle.obstacle_registry.proofs.live.LiveLevel.take_all_down.Given as goal

-- as many were taken down as the loop went round
abbrev pub invariant-loop : goal.invariant-loop
invariant-loop l = record {
  down : AreTakenDown l.counter l.fn.self l.self;
  all : l.end ≡ length (alive_now l.fn.self);
  rules : IsBook l.self;
}
