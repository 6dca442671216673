use Rattle.std.proofs.Common.{◌+ℤ◌, ◌∙◌, ap₂}
use Rattle.nav_base.specs.Point.{dot_of}
use Rattle.crowd_moves.proofs.Readings.{short_product_reads, sum_is_read}
use Rattle.crowd_moves.proofs.beyond.dot.Goals as goal

pub returns-clause-value : goal.returns-clause-value
unfolding dot_of
returns-clause-value c =
    sum_is_read c.part_product-across.result c.part_product-along.result c.part_product-across.ensures.small c.part_product-along.ensures.small
    ∙ ap₂ ◌+ℤ◌
    (short_product_reads c.part_product-across.result c.args.u.x c.args.v.x c.requires.first.across c.requires.second.across c.part_product-across.ensures.value)
    (short_product_reads c.part_product-along.result c.args.u.z c.args.v.z c.requires.first.along c.requires.second.along c.part_product-along.ensures.value)
