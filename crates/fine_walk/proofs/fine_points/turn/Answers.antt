use Rattle.std.proofs.Common.{◌-ℤ◌, ◌*ℤ◌, ◌∙◌, ap₂, arith}
use Rattle.nav_base.specs.Point.{cross_of, orient_of}
use Rattle.nav_base.proofs.Sizes.{unsigned_abs--ℤ}
use Rattle.fine_walk.proofs.Readings.{difference_fits, difference_is_read, product_reads, part_reads}
use Rattle.fine_walk.proofs.fine_points.turn.Goals as goal

pub overflow_sub-result : goal.overflow_sub-result
overflow_sub-result c = difference_fits c.product-left.result c.product-right.result c.product-left.ensures.small c.product-right.ensures.small

pub returns-clause-value : goal.returns-clause-value
unfolding orient_of cross_of
returns-clause-value c =
    difference_is_read c.product-left.result c.product-right.result c.product-left.ensures.small c.product-right.ensures.small
    ∙ ap₂ ◌-ℤ◌
    (product_reads c.product-left.result c.part.result c.part-2.result c.part.ensures.small c.part-2.ensures.small c.product-left.ensures.value
    ∙ ap₂ ◌*ℤ◌ (part_reads c.part.result c.args.a.x c.args.b.x c.requires.first.across c.requires.second.across c.part.ensures.value)
    (part_reads c.part-2.result c.args.a.z c.args.c.z c.requires.first.along c.requires.third.along c.part-2.ensures.value))
    (product_reads c.product-right.result c.part-3.result c.part-4.result c.part-3.ensures.small c.part-4.ensures.small c.product-right.ensures.value
    ∙ ap₂ ◌*ℤ◌ (part_reads c.part-3.result c.args.a.z c.args.b.z c.requires.first.along c.requires.second.along c.part-3.ensures.value)
    (part_reads c.part-4.result c.args.a.x c.args.c.x c.requires.first.across c.requires.third.across c.part-4.ensures.value))

pub returns-clause-small : goal.returns-clause-small
returns-clause-small c =
    rw (difference_is_read c.product-left.result c.product-right.result c.product-left.ensures.small c.product-right.ensures.small)
    (omega (arith, unsigned_abs--ℤ c.product-left.result c.product-right.result, c.product-left.ensures.small, c.product-right.ensures.small))
