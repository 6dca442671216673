use Rattle.std.proofs.Common.{List, map}
use Rattle.build_queue.specs.BookState.{BookState}
use Rattle.build_queue.specs.Steps.{requested}
use Rattle.agent_kinds.proofs.FieldKept.{kept_by}
use Rattle.agent_kinds.proofs.OverField.{kept_request, over_all}
use Rattle.agent_kinds.proofs.kinds.Kinds.request.Goals as goal

pub invariant_of-self : goal.invariant_of-self
invariant_of-self c =
    let step : BookState → BookState = λ state. requested state c.args.lane c.args.request in
    kept_by c.self.inside c.as_mut_slice.result.now c.request_all.new.levels (map step) c.as_mut_slice.ensures.value c.request_all.auto.levels c.request_all.ensures.rules
    c.request_all.ensures.state (λ (states : List BookState). over_all step c.self.inside.field states (kept_request c.args.lane c.args.request)) c.self.invariant
