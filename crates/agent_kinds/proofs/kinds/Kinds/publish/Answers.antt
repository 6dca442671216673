use Rattle.std.proofs.Common.{List}
use Rattle.build_queue.specs.BookState.{BookState}
use Rattle.agent_kinds.specs.KindSteps.{after_publish_all}
use Rattle.agent_kinds.proofs.FieldKept.{kept_by, either_way}
use Rattle.agent_kinds.proofs.OverField.{over_published}
use Rattle.agent_kinds.proofs.kinds.Kinds.publish.Goals as goal

pub invariant_of-self : goal.invariant_of-self
invariant_of-self c =
    let field = c.self.inside.field in
    either_way c.publish_kinds.result _ _ _ c.publish_kinds.ensures.state c.publish_kinds.ensures.refused
    (λ is. kept_by c.self.inside c.as_mut_slice.result.now c.publish_kinds.new.levels after_publish_all c.as_mut_slice.ensures.value c.publish_kinds.auto.levels c.publish_kinds.ensures.rules is (λ (states : List BookState). over_published field states) c.self.invariant)
    (λ is. kept_by c.self.inside c.as_mut_slice.result.now c.publish_kinds.new.levels (λ (states : List BookState). states) c.as_mut_slice.ensures.value c.publish_kinds.auto.levels c.publish_kinds.ensures.rules is (λ (states : List BookState) over. over) c.self.invariant)
