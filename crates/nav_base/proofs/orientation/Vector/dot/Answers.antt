-- The two products are what they say, and their bounds leave room.
use Rattle.std.proofs.Common.{◌+ℤ◌, ◌∙◌, ap₂, w64}
use Rattle.std.proofs.lemmas.Int.{to_z-of_z}
use Rattle.nav_base.specs.Point.{dot_of}
use Rattle.nav_base.proofs.Readings.{sum_fits, product_reads}
use Rattle.nav_base.proofs.orientation.Vector.dot.Goals as goal

pub overflow_add-result : goal.overflow_add-result
overflow_add-result c = sum_fits c.product.result c.product-2.result c.product.ensures.small c.product-2.ensures.small

pub returns : goal.returns
unfolding dot_of
returns c =
    to_z-of_z w64 _ (overflow_add-result c)
    ∙ ap₂ ◌+ℤ◌
    (product_reads c.product.result c.args.self.x c.args.other.x c.requires.first.across c.requires.second.across c.product.ensures.value)
    (product_reads c.product-2.result c.args.self.z c.args.other.z c.requires.first.along c.requires.second.along c.product-2.ensures.value)
