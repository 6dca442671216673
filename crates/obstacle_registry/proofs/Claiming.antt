-- What claims keep of a level, and so of its registry.
use Rattle.std.proofs.Common.{◌≡◌, Option, Result, Ok, Err, ap}
use Rattle.build_queue.specs.declared.live.Job.{Job}
use Rattle.build_queue.specs.BookState.{BookState, IsBook}
use Rattle.build_queue.specs.StepContracts.{IsClaimStep}
use Rattle.obstacle_registry.specs.Claims.{with_level}
use Rattle.obstacle_registry.specs.Registry.{IsRegistry, RegistryState}
use Rattle.obstacle_registry.proofs.Updating.{kept_update}

-- a claim keeps the history, also where memory is refused
pub claim_keeps : {E : Type 0} (old new : BookState) (result : Result (Option Job) E) → IsClaimStep old new result → new.history ≡ old.history
claim_keeps old new (Ok job) step = ap (λ (b : BookState). b.history) step.claimed
claim_keeps old new (Err refused) step = ap (λ (b : BookState). b.history) step.refused

-- a registry stays one where a step of its level keeps the history
pub kept_by_step : (state : RegistryState) (book' : BookState) → IsRegistry state → IsBook book' → book'.history ≡ state.book.history
    → IsRegistry (with_level state book')
kept_by_step state book' rules' new same = kept_update state book' state.version rules' new same
