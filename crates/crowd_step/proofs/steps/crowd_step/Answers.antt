use Rattle.std.proofs.Common.{List, ℕ, length, sym, subst}
use Rattle.nav_base.specs.declared.point.Point.{Point}
use Rattle.crowd_step.specs.Lists.{AreListed}
use Rattle.crowd_step.specs.Orders.{AreNamed}
use Rattle.crowd_step.proofs.WholeLaws.{steered}
use Rattle.crowd_step.proofs.steps.crowd_step.Goals as goal

pub returns-clause-right : goal.returns-clause-right
returns-clause-right c =
    let sight = c.args.rules.sight in
    let agents = c.args.agents.now in
    let steering = c.args.steering.now in
    let count = length c.args.agents.now in
    steered c.args.mesh.now sight steering agents c.step.new.agents c.as_slice.result.now c.as_slice-2.result.now c.as_slice-3.result.now c.in_ok-step.field-0
    (subst (AreNamed count) (sym c.as_slice.ensures.value) c.in_ok-intents.ensures.order)
    (subst (λ (first : List ℕ). AreListed sight agents steering first c.as_slice-3.result.now count) (sym c.as_slice-2.ensures.value)
    (subst (λ (vectors : List Point). AreListed sight agents steering c.in_ok-intents.intents.first.items vectors count) (sym c.as_slice-3.ensures.value)
    c.in_ok-intents.ensures.lists)) c.in_ok-step.ensures.right
