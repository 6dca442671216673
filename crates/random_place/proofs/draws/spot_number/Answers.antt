use Rattle.std.proofs.Common.{◌*◌, ◌/◌, ap, ◌∙◌, arith}
use Rattle.random_place.proofs.NumberLaws.{number_below, of_parts}
use Rattle.random_place.proofs.draws.spot_number.Goals as goal

pub returns-clause-value : goal.returns-clause-value
returns-clause-value c =
    of_parts 18446744073709551616 c.from-draw.result c.args.count (omega arith) ∙ ap (λ n. n * c.args.count / 18446744073709551616) c.from-draw.ensures

pub returns-clause-below : goal.returns-clause-below
returns-clause-below c =
    λ some.
    let less = number_below c.args.draw c.args.count (omega (arith, c.ranges.draw.fits)) some in
    omega (
      arith,
      less,
      of_parts 18446744073709551616 c.from-draw.result c.args.count (omega arith) ∙ ap (λ n. n * c.args.count / 18446744073709551616) c.from-draw.ensures,
    )
