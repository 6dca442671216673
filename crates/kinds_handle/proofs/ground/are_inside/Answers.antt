use Rattle.std.proofs.Common.{rules, arith, subst, take_all}
use Rattle.std.specs.Prelude.{All}
use Rattle.kinds_handle.specs.KindGroundChanges.{IsInside}
use Rattle.kinds_handle.proofs.Loops.{all_more}
use Rattle.kinds_handle.proofs.ground.are_inside.Goals as goal

pub loop-span-preserved : goal.loop-span-preserved
loop-span-preserved c =
    all_more (IsInside c.args.columns.now) c.args.spans.now c.loop-span.span-index _ c.loop-span-test.true c.loop-span.invariant
    (c.is_inside.ensures.0 (search rules))

pub returns : goal.returns
returns c = (
  λ told. subst (All (IsInside c.args.columns.now)) (take_all c.loop-span.span-index c.args.spans.now (omega (arith, c.loop-span-test.false))) c.loop-span.invariant,
  λ all. search rules,
)
