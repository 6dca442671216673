use Rattle.std.proofs.Common.{arith, length, sym, ◌∙◌}
use Rattle.std.specs.List.{range_with_len}
use Rattle.std.proofs.lemmas.List.{ext_get_or}
use Rattle.std.proofs.lemmas.List.FromFn.{get_or-range_with_len, length-range_with_len}
use Rattle.obstacle_registry.proofs.renew.count_up.Goals as goal

pub returns : goal.returns
returns c =
    let long = length-range_with_len 1 (length c.args.numbers.now) in
    ext_get_or 0 c.loop-place.numbers (range_with_len 1 (length c.args.numbers.now)) (c.loop-place.auto.numbers ∙ sym long)
    (λ k inside.
    let at = get_or-range_with_len 1 (length c.args.numbers.now) k 0 (omega (arith, inside, c.loop-place.auto.numbers)) in
    omega (arith, at, c.loop-place.invariant k (omega (arith, inside, c.loop-place.auto.numbers, c.loop-place-test.false))))
