use Rattle.std.proofs.Common.{rules, ◌≡◌, ℕ, length, sym, subst}
use Rattle.crowd_step.specs.Orders.{AreNamed}
use Rattle.crowd_step.proofs.OrderLaws.{if_ok_on}
use Rattle.crowd_step.proofs.intents.intents_of.Goals as goal

pub returns-clause-order : goal.returns-clause-order
returns-clause-order c =
    let same : length c.as_slice-3.result.now ≡ length c.args.agents.now = search rules in
    let named : AreNamed (length c.args.agents.now) c.in_ok-order.order.items =
    subst (λ (n : ℕ). AreNamed n c.in_ok-order.order.items) same c.in_ok-order.ensures in
    if_ok_on c.lists.result
    (λ intents is.
    let order : intents.order.items ≡ c.in_ok-order.order.items = λ i. (is i).items in
    subst (AreNamed (length c.args.agents.now)) (sym order) named) c.lists.ensures.order
