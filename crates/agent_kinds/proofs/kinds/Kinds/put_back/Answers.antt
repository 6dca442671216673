use Rattle.std.proofs.Common.{List, refl}
use Rattle.build_queue.specs.BookState.{BookState}
use Rattle.build_queue.specs.Steps.{after_put_back}
use Rattle.agent_kinds.specs.Firsts.{at_kind}
use Rattle.agent_kinds.proofs.FieldKept.{kept_by}
use Rattle.agent_kinds.proofs.OverField.{over_at}
use Rattle.agent_kinds.proofs.kinds.Kinds.put_back.Goals as goal

pub invariant_of-self : goal.invariant_of-self
invariant_of-self c =
    let step : BookState → BookState = λ state. after_put_back state c.args.job.tile in
    kept_by c.self.inside c.as_mut_slice.result.now c.put_back_to.new.levels (at_kind c.args.kind step) c.as_mut_slice.ensures.value c.put_back_to.auto.levels c.put_back_to.ensures.rules
    c.put_back_to.ensures.state (λ (states : List BookState). over_at step c.self.inside.field (λ (state : BookState). refl) c.args.kind states) c.self.invariant
