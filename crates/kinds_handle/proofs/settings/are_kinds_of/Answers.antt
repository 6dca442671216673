use Rattle.std.proofs.Common.{rules, arith, subst, take_all}
use Rattle.std.specs.Prelude.{All}
use Rattle.kinds_handle.specs.KindSettings.{IsKindOf}
use Rattle.kinds_handle.proofs.Loops.{all_more}
use Rattle.kinds_handle.proofs.settings.are_kinds_of.Goals as goal

pub loop-kind-preserved : goal.loop-kind-preserved
loop-kind-preserved c =
    all_more (IsKindOf c.args.ground.now) c.args.kinds.now c.loop-kind.kind-index _ c.loop-kind-test.true c.loop-kind.invariant
    (c.is_kind_of.ensures.0 (search rules))

pub returns : goal.returns
returns c = (
  λ told. subst (All (IsKindOf c.args.ground.now)) (take_all c.loop-kind.kind-index c.args.kinds.now (omega (arith, c.loop-kind-test.false))) c.loop-kind.invariant,
  λ all. search rules,
)
