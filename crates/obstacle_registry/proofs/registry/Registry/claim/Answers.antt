use Rattle.obstacle_registry.specs.Representation.{state_of}
use Rattle.obstacle_registry.proofs.Claiming.{claim_keeps, kept_by_step}
use Rattle.obstacle_registry.proofs.registry.Registry.claim.Goals as goal

pub invariant_of-self : goal.invariant_of-self
invariant_of-self c =
    kept_by_step (state_of c.self.inside) c.claim.new.self c.self.invariant c.claim.ensures.rules
    (claim_keeps c.self.inside.level c.claim.new.self c.claim.result c.claim.ensures)

pub returns-clause-rules : goal.returns-clause-rules
returns-clause-rules c = invariant_of-self c
