use Rattle.std.proofs.Common.{◌-◌, rules, arith, subst, take_all}
use Rattle.std.specs.Prelude.{AllPairs}
use Rattle.kinds_handle.specs.KindSpans.{ComesBefore}
use Rattle.kinds_handle.proofs.Loops.{before_at}
use Rattle.kinds_handle.proofs.SpanOrder.{order_more}
use Rattle.kinds_handle.proofs.spans.are_in_order.Goals as goal

pub loop-place-preserved : goal.loop-place-preserved
loop-place-preserved c =
    order_more c.args.ground.now c.args.spans.now c.loop-place.place (omega (arith, c.loop-place.auto.place)) c.loop-place-test.true c.requires
    c.loop-place.invariant
    (λ d. before_at ComesBefore c.args.spans.now (c.loop-place.place - 1) c.loop-place.place _ _ d (omega (arith, c.loop-place-test.true)) c.loop-place-test.true
    (c.comes_before.ensures.0 (search rules)))

pub returns : goal.returns
returns c = (
  λ told. subst (AllPairs ComesBefore) (take_all c.loop-place.place c.args.spans.now (omega (arith, c.loop-place-test.false))) c.loop-place.invariant,
  λ all. search rules,
)
