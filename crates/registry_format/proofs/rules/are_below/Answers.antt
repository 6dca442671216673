use Rattle.std.proofs.Common.{◌<◌, rules, arith, subst, take_all}
use Rattle.std.specs.Prelude.{All}
use Rattle.registry_format.proofs.Loops.{all_more, same_at}
use Rattle.registry_format.proofs.rules.are_below.Goals as goal

pub loop-place-preserved : goal.loop-place-preserved
loop-place-preserved c =
    all_more (λ place. place < c.args.count) c.args.places.now c.loop-place.place-index c.loop-place-test.true c.loop-place.invariant
    (λ d. subst (λ place. place < c.args.count) (same_at c.args.places.now c.loop-place.place-index 0 d c.loop-place-test.true) (omega (arith, c.if-place-count.false)))

pub returns : goal.returns
returns c =
    (λ told. subst (All (λ place. place < c.args.count)) (take_all c.loop-place.place-index c.args.places.now (omega (arith, c.loop-place-test.false))) c.loop-place.invariant, λ all. search rules)
