use Rattle.std.proofs.Common.{List, map, refl}
use Rattle.build_queue.specs.BookState.{BookState}
use Rattle.build_queue.specs.Steps.{after_aim}
use Rattle.agent_kinds.proofs.FieldKept.{kept_by}
use Rattle.agent_kinds.proofs.OverField.{over_all}
use Rattle.agent_kinds.proofs.kinds.Kinds.aim.Goals as goal

pub invariant_of-self : goal.invariant_of-self
invariant_of-self c =
    kept_by c.self.inside c.as_mut_slice.result.now c.aim_all.new.levels (map after_aim) c.as_mut_slice.ensures.value c.aim_all.auto.levels c.aim_all.ensures.rules
    c.aim_all.ensures.state (λ (states : List BookState). over_all after_aim c.self.inside.field states (λ (state : BookState). refl)) c.self.invariant
