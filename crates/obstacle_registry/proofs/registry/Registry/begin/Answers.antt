use Rattle.std.proofs.Common.{List, sym, subst}
use Rattle.build_queue.specs.BookState.{BookState, IsBook}
use Rattle.obstacle_registry.specs.declared.row.Registered.{Registered}
use Rattle.obstacle_registry.specs.Registry.{IsRegistry}
use Rattle.obstacle_registry.proofs.Updating.{first_kept}
use Rattle.obstacle_registry.proofs.registry.Registry.begin.Goals as goal

pub invariant_of-result : goal.invariant_of-result
invariant_of-result c =
    subst (λ (b : BookState). IsRegistry (record { book = b; rows = c.new-rows.result.items; last = 0; version = 0 })) (sym c.new-live.ensures)
    (subst (λ (list : List Registered). IsRegistry (record { book = c.args.level.value; rows = list; last = 0; version = 0 })) (sym c.new-rows.ensures.items)
    (first_kept c.args.level.value (subst IsBook c.deref.ensures c.ground.ensures.rules) c.requires))
