use Rattle.std.proofs.Common.{ap}
use Rattle.build_queue.specs.BookState.{BookState}
use Rattle.obstacle_registry.specs.Representation.{state_of}
use Rattle.obstacle_registry.proofs.Claiming.{kept_by_step}
use Rattle.obstacle_registry.proofs.registry.Registry.put_back.Goals as goal

pub invariant_of-self : goal.invariant_of-self
invariant_of-self c =
    kept_by_step (state_of c.self.inside) c.put_back.new.self c.self.invariant c.put_back.ensures.rules (ap (λ (b : BookState). b.history) c.put_back.ensures.back)

pub returns-clause-rules : goal.returns-clause-rules
returns-clause-rules c = invariant_of-self c
