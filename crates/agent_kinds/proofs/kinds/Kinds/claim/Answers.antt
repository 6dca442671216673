use Rattle.std.proofs.Common.{List, refl}
use Rattle.build_queue.specs.BookState.{BookState}
use Rattle.build_queue.specs.Steps.{after_claim}
use Rattle.agent_kinds.specs.Firsts.{at_found, first_job}
use Rattle.agent_kinds.proofs.FieldKept.{kept_by, either_way}
use Rattle.agent_kinds.proofs.OverField.{over_found}
use Rattle.agent_kinds.proofs.kinds.Kinds.claim.Goals as goal

pub invariant_of-self : goal.invariant_of-self
invariant_of-self c =
    let field = c.self.inside.field in
    either_way c.claim_first.result _ _ _ c.claim_first.ensures.state c.claim_first.ensures.refused
    (λ is. kept_by c.self.inside c.as_mut_slice.result.now c.claim_first.new.levels (λ (states : List BookState). at_found after_claim (first_job states) states) c.as_mut_slice.ensures.value c.claim_first.auto.levels c.claim_first.ensures.rules is (λ (states : List BookState). over_found after_claim field (λ (state : BookState). refl) (first_job states) states) c.self.invariant)
    (λ is. kept_by c.self.inside c.as_mut_slice.result.now c.claim_first.new.levels (λ (states : List BookState). states) c.as_mut_slice.ensures.value c.claim_first.auto.levels c.claim_first.ensures.rules is (λ (states : List BookState) over. over) c.self.invariant)
