use Rattle.std.proofs.Common.{List, map, refl}
use Rattle.build_queue.specs.BookState.{BookState}
use Rattle.build_queue.specs.Steps.{after_put_back_all}
use Rattle.agent_kinds.proofs.FieldKept.{kept_by}
use Rattle.agent_kinds.proofs.OverField.{over_all}
use Rattle.agent_kinds.proofs.kinds.Kinds.put_back_all.Goals as goal

pub invariant_of-self : goal.invariant_of-self
invariant_of-self c =
    kept_by c.self.inside c.as_mut_slice.result.now c.put_back_all.new.levels (map after_put_back_all) c.as_mut_slice.ensures.value c.put_back_all.auto.levels c.put_back_all.ensures.rules
    c.put_back_all.ensures.state (λ (states : List BookState). over_all after_put_back_all c.self.inside.field states (λ (state : BookState). refl)) c.self.invariant
