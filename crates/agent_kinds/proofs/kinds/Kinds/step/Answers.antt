use Rattle.std.proofs.Common.{List}
use Rattle.build_queue.specs.BookState.{BookState}
use Rattle.nav_book.specs.Settling.{after_step}
use Rattle.agent_kinds.specs.Firsts.{at_found, first_claimable}
use Rattle.agent_kinds.proofs.FieldKept.{kept_by, either_way}
use Rattle.agent_kinds.proofs.OverField.{kept_step, over_found}
use Rattle.agent_kinds.proofs.kinds.Kinds.step.Goals as goal

pub invariant_of-self : goal.invariant_of-self
invariant_of-self g c =
    let field = c.self.inside.field in
    either_way c.step_first.result _ _ _ c.step_first.ensures.state c.step_first.ensures.refused
    (λ is. kept_by c.self.inside c.as_mut_slice.result.now c.step_first.new.levels (λ (states : List BookState). at_found after_step (first_claimable states) states) c.as_mut_slice.ensures.value c.step_first.auto.levels c.step_first.ensures.rules is (λ (states : List BookState). over_found after_step field kept_step (first_claimable states) states) c.self.invariant)
    (λ is. kept_by c.self.inside c.as_mut_slice.result.now c.step_first.new.levels (λ (states : List BookState). states) c.as_mut_slice.ensures.value c.step_first.auto.levels c.step_first.ensures.rules is (λ (states : List BookState) over. over) c.self.invariant)
