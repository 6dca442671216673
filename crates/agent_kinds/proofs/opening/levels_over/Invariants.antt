use Rattle.std.proofs.Common.{◌≡◌, ◌++◌, map}
use Rattle.std.specs.Prelude.{All}
use Rattle.std.specs.Vec.Iter.{into_iter_items}
use Rattle.nav_ground.specs.Grounds.{IsGround}
use Rattle.build_queue.specs.BookState.{IsBook, first_state}
use Rattle.agent_kinds.proofs.opening.levels_over.Given as goal

-- the levels of the grounds so far, and the grounds to come
abbrev pub invariant-loop-ground : goal.invariant-loop-ground
invariant-loop-ground g l = record {
  made : l.levels.items ++ map first_state (into_iter_items l.ground-iterator) ≡ map first_state l.fn.grounds.items;
  rules : All IsBook l.levels.items;
  rest : All IsGround (into_iter_items l.ground-iterator);
}
