use Rattle.std.proofs.Common.{◌<◌, ◌-◌, rules, arith, subst, take_all}
use Rattle.std.specs.Prelude.{AllPairs}
use Rattle.registry_format.specs.declared.saved.SavedObstacle.{SavedObstacle}
use Rattle.registry_format.proofs.Loops.{before_at}
use Rattle.registry_format.proofs.Pairs.{rising_more}
use Rattle.registry_format.proofs.rules.are_rising.Goals as goal

pub loop-place-preserved : goal.loop-place-preserved
loop-place-preserved c =
    rising_more c.args.rows.now c.loop-place.place (omega (arith, c.loop-place.auto.place)) c.loop-place-test.true c.loop-place.invariant
    (λ d. before_at c.args.rows.now (c.loop-place.place - 1) c.loop-place.place _ _ d (omega (arith, c.loop-place-test.true)) c.loop-place-test.true
    (c.is_before.ensures.0 (search rules)))

pub returns : goal.returns
returns c = (
  λ told. subst (AllPairs (λ (a b : SavedObstacle). a.id < b.id)) (take_all c.loop-place.place c.args.rows.now (omega (arith, c.loop-place-test.false))) c.loop-place.invariant,
  λ all. search rules,
)
