use Rattle.std.proofs.Common.{rules, arith, subst, take_all}
use Rattle.std.specs.Prelude.{All}
use Rattle.kinds_handle.specs.KindSpans.{IsSpanOf}
use Rattle.kinds_handle.proofs.Loops.{all_more}
use Rattle.kinds_handle.proofs.spans.are_in_limits.Goals as goal

pub loop-span-preserved : goal.loop-span-preserved
loop-span-preserved c =
    all_more (IsSpanOf c.args.ground.now) c.args.spans.now c.loop-span.span-index _ c.loop-span-test.true c.loop-span.invariant
    (c.is_span_of.ensures.0 (search rules))

pub returns : goal.returns
returns c = (
  λ told. subst (All (IsSpanOf c.args.ground.now)) (take_all c.loop-span.span-index c.args.spans.now (omega (arith, c.loop-span-test.false))) c.loop-span.invariant,
  λ all. search rules,
)
